use Rattle.std.proofs.Common.{◌<◌, length, refl, arith}
use Rattle.fluent_syntax_names.proofs.Listed.{length-items, pushed_item_is_last_of_its_list}
use Rattle.fluent_syntax_names.proofs.named_lists.NamedLists.push.Goals as goal

pub index_mut-requires : goal.index_mut-requires
index_mut-requires g c = omega (arith, c.requires, length-items c.args.self.now.lists.items)

pub returns : goal.returns
returns g c =
    let lists = c.args.self.now.lists.items in
    let u = c.args.number in
    let within : u < length lists = omega (arith, c.requires, length-items lists) in
    record {
      same = refl;
      longer = pushed_item_is_last_of_its_list lists u c.index_mut.result.now c.push.new.self c.args.item within
          c.index_mut.ensures.value c.in_ok-push.ensures.items;
    }

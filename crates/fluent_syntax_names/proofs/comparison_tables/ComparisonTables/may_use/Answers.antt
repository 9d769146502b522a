use Rattle.std.proofs.Common.{◌≡◌, false, Some, Vec, sym, ap, ◌∙◌, rules}
use Rattle.std.specs.Borrow.{Bor}
use Rattle.std.specs.Prelude.{◌||◌, option_map}
use Rattle.std.specs.declared.alloc.Global.{Global}
use Rattle.std.proofs.lemmas.Result.{IfOk-weaker}
use Rattle.fluent_syntax_names.specs.ComparisonTables.{other_by}
use Rattle.fluent_syntax_names.specs.MissingParts.{may_use, some_may_use}
use Rattle.fluent_syntax_names.specs.Rows.{texts_at}
use Rattle.fluent_syntax_names.specs.QualifiedNames.{Text, name_at, qualified_name, qualified_variable}
use Rattle.fluent_syntax_names.proofs.comparison_tables.ComparisonTables.may_use.Goals as goal

pub returns-in-Some : goal.returns-in-Some
returns-in-Some c =
    let self = c.args.self.now in
    let D = other_by self in
    let text = self.text.now in
    let variable = name_at text c.args.variable in
    let reachable = D.reachable (qualified_name text c.args.owner) in
    let unused : D.uses (qualified_variable text c.args.owner c.args.variable) ≡ false = search rules in
    let messages = c.in-Some.messages.items in
    let reachable_is : D.reachable (qualified_name text c.args.owner) ≡ Some (texts_at messages) =
    ap D.reachable (sym (c.deref-2.ensures.value ∙ c.in_ok-owner.ensures))
    ∙ sym c.in_ok-messages.ensures
    ∙ ap (option_map (λ (v : Vec (Bor Text) Global). texts_at v.items)) c.in-Some.is in
    let some = rw (c.name_at.ensures, c.deref-in-Some.ensures.value) at c.some_may_use.ensures in
    let same : some_may_use D variable (Some (texts_at messages)) ≡ may_use D text c.args.owner c.args.variable =
    sym (ap (λ u. u || some_may_use D variable reachable) unused ∙ ap (some_may_use D variable) reachable_is) in
    IfOk-weaker c.some_may_use.result (λ may. may ≡ some_may_use D variable (Some (texts_at messages)))
    (λ may. may ≡ may_use D text c.args.owner c.args.variable) (λ may is. is ∙ same) some

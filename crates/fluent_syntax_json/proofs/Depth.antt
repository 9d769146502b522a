-- What is in a value nests less deep than the value.
use Rattle.std.proofs.Common.{◌≡◌, ℕ, zero, suc, ◌<◌, ◌≤◌, max, List, [], ◌∷◌, length, get_or, Option, Some, None}
use Rattle.std.proofs.Common.{Ordering, Less, Equal, Greater, nat_cmp, ap, arith}
use Rattle.std.proofs.lemmas.Option.{none-some, same_Some}
use Rattle.std.specs.Cmp.Lexicographic.{slice_cmp}
use Rattle.std.specs.Ordering.{match_ordering}
use Rattle.serde_json.specs.Data.{Data, null, boolean, number, string, array, object, Items, Members, no_members}
use Rattle.serde_json.specs.Data.{member, depth, items_depth, members_depth}
use Rattle.serde_json.specs.Find.{get, get_member, as_array}
use Rattle.serde_json.specs.View.{view, items_view}
use Rattle.serde_json.specs.declared.value.Value.{Value}
use Rattle.fluent_syntax_json.specs.Object.{Text}
use Rattle.fluent_syntax_json.specs.Reading.{◌>>=◌, present, unless_null}

either_is_no_deeper : (o : Ordering) (found : Option Data) (d e : Data) (n : ℕ) → (found ≡ Some e → depth e ≤ n) →
    match_ordering o found (Some d) found ≡ Some e → depth e ≤ max (depth d) n
either_is_no_deeper Less found d e n h is = let below = h is in omega arith
either_is_no_deeper Equal found d e n h is = let same = ap depth (same_Some d e is) in omega arith
either_is_no_deeper Greater found d e n h is = let below = h is in omega arith

member_is_no_deeper : (k : Text) (ms : Members) (e : Data) → get_member k ms ≡ Some e → depth e ≤ members_depth ms
member_is_no_deeper k no_members e is = absurd (none-some _ is)
member_is_no_deeper k (member l d ms) e is =
    either_is_no_deeper (slice_cmp nat_cmp k l) (get_member k ms) d e (members_depth ms) (member_is_no_deeper k ms e) is

pub member_is_less_deep : (k : Text) (d e : Data) → get k d ≡ Some e → depth e < depth d
member_is_less_deep k null e is = absurd (none-some _ is)
member_is_less_deep k (boolean b) e is = absurd (none-some _ is)
member_is_less_deep k (number n) e is = absurd (none-some _ is)
member_is_less_deep k (string s) e is = absurd (none-some _ is)
member_is_less_deep k (array ds) e is = absurd (none-some _ is)
member_is_less_deep k (object ms) e is = let below = member_is_no_deeper k ms e is in omega arith

unless_null_gives_itself : (d e : Data) → unless_null d ≡ Some e → d ≡ e
unless_null_gives_itself null e is = absurd (none-some _ is)
unless_null_gives_itself (boolean b) e is = same_Some _ _ is
unless_null_gives_itself (number n) e is = same_Some _ _ is
unless_null_gives_itself (string s) e is = same_Some _ _ is
unless_null_gives_itself (array ds) e is = same_Some _ _ is
unless_null_gives_itself (object ms) e is = same_Some _ _ is

unless_null_was_found : (found : Option Data) (e : Data) → (found >>= unless_null) ≡ Some e → found ≡ Some e
unless_null_was_found None e is = absurd (none-some _ is)
unless_null_was_found (Some d) e is = ap Some (unless_null_gives_itself d e is)

-- what is present at a key is there
pub present_value_is_got : (k : Text) (d e : Data) → present k d ≡ Some e → get k d ≡ Some e
present_value_is_got k d e is = unless_null_was_found (get k d) e is

array_items_are_less_deep : (d : Data) (ds : Items) → as_array d ≡ Some ds → items_depth ds < depth d
array_items_are_less_deep null ds is = absurd (none-some _ is)
array_items_are_less_deep (boolean b) ds is = absurd (none-some _ is)
array_items_are_less_deep (number n) ds is = absurd (none-some _ is)
array_items_are_less_deep (string s) ds is = absurd (none-some _ is)
array_items_are_less_deep (array es) ds is = let same = ap items_depth (same_Some es ds is) in omega arith
array_items_are_less_deep (object ms) ds is = absurd (none-some _ is)

value_is_no_deeper : (vs : List Value) (i : ℕ) (d : Value) → i < length vs →
    depth (view (get_or vs i d)) ≤ items_depth (items_view vs)
value_is_no_deeper [] i d h = absurd (omega arith)
value_is_no_deeper (v ∷ vs) zero d h = omega arith
value_is_no_deeper (v ∷ vs) (suc i) d h = let below = value_is_no_deeper vs i d (omega arith) in omega arith

-- an item of the list at a key
pub item_at_key_is_less_deep : (k : Text) (d e : Data) (vs items : List Value) (i : ℕ) (v : Value) → get k d ≡ Some e →
    as_array e ≡ Some (items_view vs) → items ≡ vs → i < length items → v ≡ get_or items i v → depth (view v) < depth d
item_at_key_is_less_deep k d e vs items i v found list same h is =
    let outer = member_is_less_deep k d e found in
    let inner = array_items_are_less_deep e (items_view vs) list in
    let below = value_is_no_deeper items i v h in
    let here = ap (λ x. depth (view x)) is in
    let all = ap (λ l. items_depth (items_view l)) same in
    omega arith

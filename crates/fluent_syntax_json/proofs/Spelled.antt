-- What a value spells, from what the values at its keys spell.
use Rattle.std.proofs.Common.{◌≡◌, Option, option_map, Ordering, Less, Equal, Greater, codes, nat_cmp, refl, ap}
use Rattle.std.specs.Cmp.Lexicographic.{slice_cmp}
use Rattle.std.specs.Ordering.{match_ordering}
use Rattle.serde_json.specs.Data.{Data, null, boolean, number, string, array, object, Items, no_items, item, Members}
use Rattle.serde_json.specs.Data.{no_members, member}
use Rattle.serde_json.specs.Find.{get, get_member}
use Rattle.fluent_syntax_tree.specs.Tree.{elements_of}
use Rattle.fluent_syntax_json.specs.Object.{Text}
use Rattle.fluent_syntax_json.specs.Reading.{Spelled, spelled, items_spelled, part_spelled, ◌>>=◌, at, one_more}
use Rattle.fluent_syntax_json.specs.Reading.{items_by, list_by, type_in, element_rule, inline_rule, expression_rule}
use Rattle.fluent_syntax_json.specs.Reading.{arguments_rule, named_rule, variant_rule, pattern_in, element_in}
use Rattle.fluent_syntax_json.specs.Reading.{expression_in, inline_in, arguments_in, named_in, variant_in}

either_is_read : {A : Type 0} (f : Spelled → Option A) (read : Data → Option A) (o : Ordering) (a b : Option Spelled)
    (c d : Option Data) → a >>= f ≡ c >>= read → b >>= f ≡ d >>= read →
    match_ordering o a b a >>= f ≡ match_ordering o c d c >>= read
either_is_read f read Less a b c d e h = e
either_is_read f read Equal a b c d e h = h
either_is_read f read Greater a b c d e h = e

-- a part that is read as a node expects it
child : {A : Type 0} (f : Spelled → Option A) (read : Data → Option A) → ((d : Data) → f (spelled d) ≡ read d) →
    (k : Text) (ms : Members) → part_spelled ms k >>= f ≡ get_member k ms >>= read
child f read e k no_members = refl
child f read e k (member l d ms) =
    either_is_read f read (slice_cmp nat_cmp k l) _ _ _ _ (child f read e k ms) (e d)

items_spelled_as_elements : (ds : Items) → (items_spelled ds).as_elements ≡ items_by element_in ds
unfolding element_in
items_spelled_as_elements no_items = refl
items_spelled_as_elements (item d ds) = ap (one_more (element_in d)) (items_spelled_as_elements ds)

spelled_as_elements : (d : Data) → (spelled d).as_elements ≡ list_by element_in d
spelled_as_elements null = refl
spelled_as_elements (boolean b) = refl
spelled_as_elements (number n) = refl
spelled_as_elements (string s) = refl
spelled_as_elements (array ds) = items_spelled_as_elements ds
spelled_as_elements (object ms) = refl

items_spelled_as_inlines : (ds : Items) → (items_spelled ds).as_inlines ≡ items_by inline_in ds
unfolding inline_in
items_spelled_as_inlines no_items = refl
items_spelled_as_inlines (item d ds) = ap (one_more (inline_in d)) (items_spelled_as_inlines ds)

spelled_as_inlines : (d : Data) → (spelled d).as_inlines ≡ list_by inline_in d
spelled_as_inlines null = refl
spelled_as_inlines (boolean b) = refl
spelled_as_inlines (number n) = refl
spelled_as_inlines (string s) = refl
spelled_as_inlines (array ds) = items_spelled_as_inlines ds
spelled_as_inlines (object ms) = refl

items_spelled_as_nameds : (ds : Items) → (items_spelled ds).as_nameds ≡ items_by named_in ds
unfolding named_in
items_spelled_as_nameds no_items = refl
items_spelled_as_nameds (item d ds) = ap (one_more (named_in d)) (items_spelled_as_nameds ds)

spelled_as_nameds : (d : Data) → (spelled d).as_nameds ≡ list_by named_in d
spelled_as_nameds null = refl
spelled_as_nameds (boolean b) = refl
spelled_as_nameds (number n) = refl
spelled_as_nameds (string s) = refl
spelled_as_nameds (array ds) = items_spelled_as_nameds ds
spelled_as_nameds (object ms) = refl

items_spelled_as_variants : (ds : Items) → (items_spelled ds).as_variants ≡ items_by variant_in ds
unfolding variant_in
items_spelled_as_variants no_items = refl
items_spelled_as_variants (item d ds) = ap (one_more (variant_in d)) (items_spelled_as_variants ds)

spelled_as_variants : (d : Data) → (spelled d).as_variants ≡ list_by variant_in d
spelled_as_variants null = refl
spelled_as_variants (boolean b) = refl
spelled_as_variants (number n) = refl
spelled_as_variants (string s) = refl
spelled_as_variants (array ds) = items_spelled_as_variants ds
spelled_as_variants (object ms) = refl

pattern_is_spelled : (d : Data) → (spelled d).as_pattern ≡ pattern_in d
unfolding pattern_in
pattern_is_spelled d = refl

expression_is_spelled : (d : Data) → (spelled d).as_expression ≡ expression_in d
unfolding expression_in
expression_is_spelled d = refl

inline_is_spelled : (d : Data) → (spelled d).as_inline ≡ inline_in d
unfolding inline_in
inline_is_spelled d = refl

arguments_are_spelled : (d : Data) → (spelled d).as_arguments ≡ arguments_in d
unfolding arguments_in
arguments_are_spelled d = refl

pub pattern-is : (d : Data) → pattern_in d ≡ option_map elements_of (at (list_by element_in) (codes "elements") d)
unfolding pattern_in
pattern-is null = refl
pattern-is (boolean b) = refl
pattern-is (number n) = refl
pattern-is (string s) = refl
pattern-is (array no_items) = refl
pattern-is (array (item d ds)) = refl
pattern-is (object ms) = rw (child (λ s. s.as_elements) (list_by element_in) spelled_as_elements (codes "elements") ms)

pub element-is : (d : Data) → element_in d ≡ type_in d >>= element_rule d (at expression_in (codes "expression") d)
unfolding element_in
element-is null = refl
element-is (boolean b) = refl
element-is (number n) = refl
element-is (string s) = refl
element-is (array no_items) = refl
element-is (array (item d ds)) = refl
element-is (object ms) = rw (child (λ s. s.as_expression) (expression_in) expression_is_spelled (codes "expression") ms)

pub inline-is : (d : Data) →
    inline_in d
    ≡ type_in d >>= inline_rule d (at arguments_in (codes "arguments") d) (at expression_in (codes "expression") d)
unfolding inline_in
inline-is null = refl
inline-is (boolean b) = refl
inline-is (number n) = refl
inline-is (string s) = refl
inline-is (array no_items) = refl
inline-is (array (item d ds)) = refl
inline-is (object ms) =
    rw (
      child (λ s. s.as_arguments) (arguments_in) arguments_are_spelled (codes "arguments") ms,
      child (λ s. s.as_expression) (expression_in) expression_is_spelled (codes "expression") ms,
    )

pub arguments-is : (d : Data) →
    arguments_in d
    ≡ arguments_rule (at (list_by inline_in) (codes "positional") d) (at (list_by named_in) (codes "named") d)
unfolding arguments_in
arguments-is null = refl
arguments-is (boolean b) = refl
arguments-is (number n) = refl
arguments-is (string s) = refl
arguments-is (array no_items) = refl
arguments-is (array (item d ds)) = refl
arguments-is (object ms) =
    rw (
      child (λ s. s.as_inlines) (list_by inline_in) spelled_as_inlines (codes "positional") ms,
      child (λ s. s.as_nameds) (list_by named_in) spelled_as_nameds (codes "named") ms,
    )

pub named-is : (d : Data) → named_in d ≡ named_rule d (at inline_in (codes "value") d)
unfolding named_in
named-is null = refl
named-is (boolean b) = refl
named-is (number n) = refl
named-is (string s) = refl
named-is (array no_items) = refl
named-is (array (item d ds)) = refl
named-is (object ms) = rw (child (λ s. s.as_inline) (inline_in) inline_is_spelled (codes "value") ms)

pub variant-is : (d : Data) → variant_in d ≡ variant_rule d (at pattern_in (codes "value") d)
unfolding variant_in
variant-is null = refl
variant-is (boolean b) = refl
variant-is (number n) = refl
variant-is (string s) = refl
variant-is (array no_items) = refl
variant-is (array (item d ds)) = refl
variant-is (object ms) = rw (child (λ s. s.as_pattern) (pattern_in) pattern_is_spelled (codes "value") ms)

pub expression-is : (d : Data) →
    expression_in d
    ≡ expression_rule (get (codes "selector") d) (at inline_in (codes "selector") d)
    (at (list_by variant_in) (codes "variants") d) (inline_in d)
unfolding expression_in inline_in
expression-is null = refl
expression-is (boolean b) = refl
expression-is (number n) = refl
expression-is (string s) = refl
expression-is (array no_items) = refl
expression-is (array (item d ds)) = refl
expression-is (object ms) =
    rw (
      child (λ s. s.as_inline) (inline_in) inline_is_spelled (codes "selector") ms,
      child (λ s. s.as_variants) (list_by variant_in) spelled_as_variants (codes "variants") ms,
    )

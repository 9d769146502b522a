-- What is known of a construct whose value a reader made.
use Rattle.std.proofs.Common.{◌≡◌, ℕ, Option, Some, None, option_map, refl, ap}
use Rattle.fluent_syntax_tree.specs.Tree.{InlineTree, inline_map, string_literal, number_literal, function_reference}
use Rattle.fluent_syntax_tree.specs.Tree.{message_reference, term_reference, variable_reference, inline_placeable}
use Rattle.fluent_syntax_grammar.specs.Construct.{Construct, Read}
use Rattle.fluent_syntax_grammar.specs.Expressions.{is_term_attribute, selector_fault}
use Rattle.fluent_syntax_parser.specs.Made.{IsMade, made}

module _ {A B : Type 0} {f : A → B} {c : Construct A} {i j : ℕ} {b : B} where
  pub made_was_read : {G : Type 0} → IsMade f c i b j → ((a : A) → c i (Read a j) → b ≡ f a → G) → G
  made_was_read (made {a = a} h e) g = g a h e

-- ---- an optional value

abbrev item_of_option_or : {B : Type 0} → B → Option B → B
item_of_option_or b None = b
item_of_option_or b (Some c) = c

pub no_value_read : {A B : Type 0} (g : A → B) (c : Construct (Option A)) {i j : ℕ} (o : Option A) →
    c i (Read o j) → None ≡ option_map g o → c i (Read None j)
no_value_read g c None h e = h
no_value_read g c (Some a) h e = cc

pub made_value_was_read : {A B G : Type 0} (g : A → B) (c : Construct (Option A)) {i j : ℕ} {b : B} (o : Option A) →
    c i (Read o j) → Some b ≡ option_map g o → ((a : A) → c i (Read (Some a) j) → b ≡ g a → G) → G
made_value_was_read g c None h e k = cc
made_value_was_read g c {b = b} (Some a) h e k = k a h (ap (item_of_option_or b) e)

-- ---- what a test of an expression finds, it finds in any texts

pub mapping_keeps_is_term_attribute : {X Y : Type 0} (f : X → Y) (e : InlineTree X) →
    is_term_attribute (inline_map f e) ≡ is_term_attribute e
mapping_keeps_is_term_attribute f (string_literal x) = refl
mapping_keeps_is_term_attribute f (number_literal x) = refl
mapping_keeps_is_term_attribute f (function_reference x a) = refl
mapping_keeps_is_term_attribute f (message_reference x a) = refl
mapping_keeps_is_term_attribute f (term_reference x None c) = refl
mapping_keeps_is_term_attribute f (term_reference x (Some a) c) = refl
mapping_keeps_is_term_attribute f (variable_reference x) = refl
mapping_keeps_is_term_attribute f (inline_placeable e) = refl

pub mapping_keeps_selector_fault : {X Y : Type 0} (f : X → Y) (e : InlineTree X) →
    selector_fault (inline_map f e) ≡ selector_fault e
mapping_keeps_selector_fault f (string_literal x) = refl
mapping_keeps_selector_fault f (number_literal x) = refl
mapping_keeps_selector_fault f (function_reference x a) = refl
mapping_keeps_selector_fault f (message_reference x None) = refl
mapping_keeps_selector_fault f (message_reference x (Some a)) = refl
mapping_keeps_selector_fault f (term_reference x None c) = refl
mapping_keeps_selector_fault f (term_reference x (Some a) c) = refl
mapping_keeps_selector_fault f (variable_reference x) = refl
mapping_keeps_selector_fault f (inline_placeable e) = refl

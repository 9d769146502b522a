-- What two readings say of the text that has changed.
use Rattle.std.proofs.Common.{◌≡◌, ◌↔◌, ℕ, List, [], ◌∷◌, map, Some, option_map, String, string_bytes}
use Rattle.std.proofs.Common.{Bool, Result, Ok, Err, refl, sym, ◌∙◌, ap}
use Rattle.std.specs.Prelude.{IfOk, IsTrue}
use Rattle.std.specs.Global.{Global}
use Rattle.fluent_syntax_tree.specs.Entry.{BodyTree}
use Rattle.fluent_syntax_tree.specs.View.{resource_view}
use Rattle.fluent_syntax_tree.specs.declared.ast.Resource.{Resource}
use Rattle.fluent_syntax_tree.specs.declared.edition.Edition.{Edition}
use Rattle.fluent_syntax_tree.specs.declared.errors.ParserError.{ParserError}
use Rattle.fluent_syntax_grammar.specs.Body.{faults}
use Rattle.fluent_syntax_grammar.specs.RoundTrip.{tree_of}
use Rattle.fluent_syntax_grammar.specs.Tiling.{Fault, Tile, Tiling}
use Rattle.fluent_syntax_grammar.proofs.OneTiling.{tile_of_text_is_one, tiled_is_unique}
use Rattle.fluent_syntax_grammar.specs.Written.{Text}
use Rattle.fluent_syntax_parser.specs.Faults.{fault_of}
use Rattle.fluent_syntax_edits.specs.Edits.{ReadAs, ReadsAfter}

-- ---- lists

some_commutes_with_map : {X : Type 0} (f : X → X) (xs : List X) →
    map Some (map f xs) ≡ map (option_map f) (map Some xs)
some_commutes_with_map f [] = refl
some_commutes_with_map f (x ∷ xs) = ap (λ ys. Some (f x) ∷ ys) (some_commutes_with_map f xs)

map_some_injects : {X : Type 0} (xs ys : List X) → map Some xs ≡ map Some ys → xs ≡ ys
map_some_injects [] [] e = refl
map_some_injects [] (y ∷ ys) e = cc
map_some_injects (x ∷ xs) [] e = cc
map_some_injects (x ∷ xs) (y ∷ ys) e =
    let rest = map_some_injects xs ys (cc) in let first : x ≡ y = cc in ap (λ zs. x ∷ zs) rest ∙ ap (λ z. z ∷ ys) first

-- ---- readings

tiling_is_unique : (edition : Edition) (t : List ℕ) (tiles others : List Tile) → Tiling edition t tiles →
    Tiling edition t others → tiles ≡ others
tiling_is_unique edition t tiles others a b = tiled_is_unique t _ (tile_of_text_is_one edition t) 0 tiles others a b

module _ (edition : Edition) (t u : List ℕ) (after : BodyTree Text → BodyTree Text) (moved : Fault → Fault) where
  module _ (old new : Resource (String Global)) (errors others : List ParserError) (a : ReadAs edition t old errors)
      (b : ReadAs edition u new others) where
    -- the one tree is the other with that made of it, and the errors are the moved ones
    abbrev pub IsChanged : Type 0
    IsChanged =
        (resource_view (λ s. string_bytes s) new ≡ after (resource_view (λ s. string_bytes s) old))
        × (map fault_of others ≡ map (option_map moved) (map fault_of errors))

    pub compared : IsChanged ↔ ReadsAfter edition t u after moved
    compared = (
      (λ so. record {
        tiles = a.tiles;
        others = b.tiles;
        tiling = a.tiling;
        new_tiling = b.tiling;
        tree = sym b.tree ∙ (so.0 ∙ ap after a.tree);
        errors = map_some_injects _ _
            (sym b.errors
            ∙ (so.1 ∙ (ap (map (option_map moved)) a.errors ∙ sym (some_commutes_with_map moved (faults a.tiles)))));
      }),
      (λ x.
          let same = tiling_is_unique edition t x.tiles a.tiles x.tiling a.tiling in
          let new_same = tiling_is_unique edition u b.tiles x.others b.tiling x.new_tiling in (
            b.tree ∙ (ap (tree_of u) new_same ∙ (x.tree ∙ ap after (ap (tree_of t) same ∙ sym a.tree))),
            b.errors ∙ (ap (λ ts. map Some (faults ts)) new_same
                ∙ (ap (map Some) x.errors ∙ (some_commutes_with_map moved (faults x.tiles)
                ∙ ap (map (option_map moved)) (ap (λ ts. map Some (faults ts)) same ∙ sym a.errors)))),
          )),
    )

-- a test of the one is a test of the other
pub test_of_same_fact : {E : Type 0} (r : Result Bool E) (P Q : Type 0) → (P → Q) → (Q → P) →
    IfOk r (λ so. IsTrue so ↔ P) → IfOk r (λ so. IsTrue so ↔ Q)
test_of_same_fact (Ok so) P Q there back test = ((λ x. there (test.0 x)), (λ y. test.1 (back y)))
test_of_same_fact (Err e) P Q there back test = tt

-- The marks of a call's arguments, by whether one comes before them.
use Rattle.std.proofs.Common.{◌≡◌, ℕ, List, [], ◌∷◌, ◌++◌, Bool, true, false, refl, ap, append_assoc, codes}
use Rattle.fluent_syntax_grammar.specs.Written.{Mark, literal, joined, more_joined}
use Rattle.fluent_syntax_grammar.specs.Writing.{separator_marks}

-- the arguments that are left
abbrev pub arguments_left : ℕ → Bool → List (List Mark) → List Mark
arguments_left level true args = more_joined level args
arguments_left level false args = joined level args

pub arguments_left-cons : (level : ℕ) (follows : Bool) (a : List Mark) (args : List (List Mark)) (end : List Mark)
    → arguments_left level follows (a ∷ args) ++ end
    ≡ separator_marks level follows ++ (a ++ (arguments_left level true args ++ end))
arguments_left-cons level true a args end =
    ap (λ ms. literal level (codes ", ") ∷ ms) (append_assoc a (more_joined level args) end)
arguments_left-cons level false a args end = append_assoc a (more_joined level args) end

pub arguments_left-none : (level : ℕ) (follows : Bool) → arguments_left level follows [] ≡ []
arguments_left-none level true = refl
arguments_left-none level false = refl

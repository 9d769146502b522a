-- Lists of errors, and the lines that they become.
use Rattle.std.proofs.Common.{◌≡◌, ◌∷◌, [], ℕ, List, map, Option, Some, None, ap, ◌∙◌, refl, sym, option_map, unwrap_or}
use Rattle.std.proofs.lemmas.Simd.{map-map}
use Rattle.fluent_syntax_tree.specs.declared.errors.ParserError.{ParserError}
use Rattle.fluent_syntax_tree.specs.Kind.{Kind, kind_of}
use Rattle.fluent_syntax_grammar.specs.Tiling.{Fault}
use Rattle.fluent_syntax_parser.specs.Faults.{fault_of}
use Rattle.ftl.specs.Answer.{error_fault}

-- ---- errors that report faults

fault_of_junk_is_made : {R : Type 0} (kind : Kind) (pos : R) (junk : Option R) (start end : R → ℕ) (f : Fault) →
    option_map (λ s.
    record {
      kind = kind;
      pos = record { start = start pos; end = end pos };
      slice = record { start = start s; end = end s };
    }) junk ≡ Some f →
    record {
      kind = kind;
      pos = record { start = start pos; end = end pos };
      slice = record { start = start (unwrap_or junk pos); end = end (unwrap_or junk pos) };
    } ≡ f
fault_of_junk_is_made kind pos None start end f e = absurd cc
fault_of_junk_is_made kind pos (Some s) start end f e = cc

fault_of_error_is_its_fault : (e : ParserError) (f : Fault) → fault_of e ≡ Some f → error_fault e ≡ f
fault_of_error_is_its_fault e f h = fault_of_junk_is_made (kind_of e.kind) e.pos e.slice (λ r. r.start) (λ r. r.end) f h

-- errors report just the faults that they are of
pub faults_of_errors_are_faults : (errors : List ParserError) (fs : List Fault) → map fault_of errors ≡ map Some fs →
    map error_fault errors ≡ fs
faults_of_errors_are_faults [] [] h = refl
faults_of_errors_are_faults [] (f ∷ fs) h = absurd cc
faults_of_errors_are_faults (e ∷ errors) [] h = absurd cc
faults_of_errors_are_faults (e ∷ errors) (f ∷ fs) h =
    let first : fault_of e ≡ Some f = cc in
    let others : map fault_of errors ≡ map Some fs = cc in
    let same = fault_of_error_is_its_fault e f first in
    let rest = faults_of_errors_are_faults errors fs others in
    cc

-- what is made of what errors report is what is made of the faults
pub made_of_faults : {X : Type 0} (made : Fault → X) (errors : List ParserError) (fs : List Fault) →
    map fault_of errors ≡ map Some fs → map (λ e. made (error_fault e)) errors ≡ map made fs
made_of_faults made errors fs h =
    sym (map-map made error_fault errors) ∙ ap (map made) (faults_of_errors_are_faults errors fs h)

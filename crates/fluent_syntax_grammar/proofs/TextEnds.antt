-- The last byte of a text.
use Rattle.std.proofs.Common.{◌≡◌, ℕ, zero, suc, ◌+◌, [], ◌∷◌, length, get_or, take, Option, Some}
use Rattle.std.proofs.Common.{false, ◌==◌, if◌then◌else◌, refl, ap, arith}
use Rattle.std.specs.Prelude.{slice_get}
use Rattle.fluent_syntax_grammar.specs.Bytes.{lf}
use Rattle.fluent_syntax_grammar.specs.Elements.{without_last_lf}
use Rattle.fluent_syntax_grammar.specs.Written.{Text, last_of}

-- the last byte, which is at place n
pub last_of_bytes_is_last_byte : (before : Option ℕ) (bs : Text) (n : ℕ) → n + 1 ≡ length bs →
    last_of before bs ≡ Some (get_or bs n 0)
last_of_bytes_is_last_byte before [] n is = absurd (omega arith)
last_of_bytes_is_last_byte before (b ∷ []) zero is = refl
last_of_bytes_is_last_byte before (b ∷ []) (suc n) is = absurd (omega arith)
last_of_bytes_is_last_byte before (b ∷ c ∷ bs) zero is = absurd (omega arith)
last_of_bytes_is_last_byte before (b ∷ c ∷ bs) (suc n) is = last_of_bytes_is_last_byte (Some b) (c ∷ bs) n (omega arith)

pub last_of-cons : (last : Option ℕ) (b : ℕ) (bs : Text) → last_of last (b ∷ bs) ≡ slice_get (b ∷ bs) (length bs)
last_of-cons last b [] = refl
last_of-cons last b (c ∷ bs) = last_of-cons (Some b) c bs

pub last_lf_is_taken_off : (bs : Text) (n : ℕ) → n + 1 ≡ length bs → get_or bs n 0 ≡ 10 → without_last_lf bs ≡ take n bs
last_lf_is_taken_off [] n is ends = absurd (omega arith)
last_lf_is_taken_off (b ∷ []) zero is ends = ap (λ x. if x == lf then [] else x ∷ []) ends
last_lf_is_taken_off (b ∷ []) (suc n) is ends = absurd (omega arith)
last_lf_is_taken_off (b ∷ c ∷ bs) zero is ends = absurd (omega arith)
last_lf_is_taken_off (b ∷ c ∷ bs) (suc n) is ends = ap (λ t. b ∷ t) (last_lf_is_taken_off (c ∷ bs) n (omega arith) ends)

pub other_last_stays : (bs : Text) (n : ℕ) → n + 1 ≡ length bs → (get_or bs n 0 == 10) ≡ false → without_last_lf bs ≡ bs
other_last_stays [] n is ends = absurd (omega arith)
other_last_stays (b ∷ []) zero is ends = ap (λ t. if t then [] else b ∷ []) ends
other_last_stays (b ∷ []) (suc n) is ends = absurd (omega arith)
other_last_stays (b ∷ c ∷ bs) zero is ends = absurd (omega arith)
other_last_stays (b ∷ c ∷ bs) (suc n) is ends = ap (λ t. b ∷ t) (other_last_stays (c ∷ bs) n (omega arith) ends)

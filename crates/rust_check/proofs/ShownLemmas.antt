-- A text that is repeated.
use Rattle.std.proofs.Common.{◌≡◌, ◌∙◌, ◌++◌, ◌+◌, ℕ, suc, zero, List, sym, ap, append_assoc, append-nil, arith}
use Rattle.rust_check.specs.Shown.{times}

-- one more repetition may be put at the end
pub times_last : (k : ℕ) (text : List ℕ) → times (suc k) text ≡ times k text ++ text
times_last zero text = append-nil text
times_last (suc k) text = ap (λ l. text ++ l) (times_last k text) ∙ sym (append_assoc text (times k text) text)

pub times_more : (k : ℕ) (text : List ℕ) → times (k + 1) text ≡ times k text ++ text
times_more k text = let next : k + 1 ≡ suc k = omega arith in ap (λ n. times n text) next ∙ times_last k text

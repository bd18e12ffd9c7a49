-- White space that replaces other white space.
use Rattle.std.proofs.Common.{◌≡◌, ℕ, Bool, true, false, ◌||◌, ◌==◌, List, [], ◌∷◌, ◌++◌, refl, sym, ap, ap₂, ◌∙◌}
use Rattle.std.proofs.Common.{append_assoc, append-nil, encode_utf8, length}
use Rattle.std.specs.Str.{chars, IsUtf8}
use Rattle.std.proofs.lemmas.Bool.{cond-false, or_parts}
use Rattle.std.proofs.lemmas.List.{nil_from_length}
use Rattle.std.proofs.lemmas.Str.{chars-nil, chars_past_char, IsUtf8-past_char}
use Rattle.relayout.specs.Written.{ends_line, line_end, line_ends}

-- white space without an LF has no line ends
pub ends_none : (returned : Bool) (white : List ℕ) → ends_line white ≡ false → line_ends returned white ≡ []
ends_none returned [] none = refl
ends_none returned (c ∷ white) none =
    let parts = or_parts (c == 10) (ends_line white) none in
    ap₂ (λ x y. x ++ y) (cond-false (c == 10) _ _ parts.0) (ends_none (c == 13) white parts.1)

-- the line ends that are written and those that are left are all line ends of the white space
pub record AreEnds (white rest : List ℕ) (old out : List ℕ) (ended returned : Bool) : Type 0 where
  pub utf8 : IsUtf8 rest
  pub ends : out ++ line_ends returned (chars rest) ≡ old ++ line_ends false (chars white)
  pub any : (ended || ends_line (chars rest)) ≡ ends_line (chars white)

or_same : (a b c : Bool) → ((a || b) || c) ≡ (a || (b || c))
or_same true b c = refl
or_same false b c = refl

pub ends_more : (white rest more old out new : List ℕ) (ended now returned : Bool) (c : ℕ)
    → AreEnds white rest old out ended returned → rest ≡ encode_utf8 c ++ more
    → new ≡ out ++ line_end returned c → now ≡ (ended || (c == 10))
    → AreEnds white more old new now (c == 13)
ends_more white rest more old out new ended now returned c so split pushed is =
    let next : chars rest ≡ c ∷ chars more = chars_past_char rest more c so.utf8 split in
    record {
      utf8 = IsUtf8-past_char rest more c so.utf8 split;
      ends = ap (λ l. l ++ line_ends (c == 13) (chars more)) pushed
          ∙ (append_assoc out (line_end returned c) (line_ends (c == 13) (chars more))
          ∙ (ap (λ l. out ++ line_ends returned l) (sym next) ∙ so.ends));
      any = ap (λ b. b || ends_line (chars more)) is
          ∙ (or_same ended (c == 10) (ends_line (chars more))
          ∙ (ap (λ l. ended || ends_line l) (sym next) ∙ so.any));
    }

or_none : (b : Bool) → (b || false) ≡ b
or_none true = refl
or_none false = refl

pub ends_all : (white rest old out : List ℕ) (ended returned : Bool) → AreEnds white rest old out ended returned
    → length rest ≡ 0 → (ended ≡ ends_line (chars white)) × (out ≡ old ++ line_ends false (chars white))
ends_all white rest old out ended returned so none =
    let nil : chars rest ≡ [] = ap chars (nil_from_length rest none) ∙ chars-nil in (
      sym (or_none ended) ∙ (ap (λ l. ended || ends_line l) (sym nil) ∙ so.any),
      sym (append-nil out) ∙ (ap (λ l. out ++ line_ends returned l) (sym nil) ∙ so.ends),
    )

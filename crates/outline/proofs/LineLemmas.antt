-- How a line is put together, one piece after the other.
use Rattle.std.proofs.Common.{◌≡◌, ◌∙◌, ◌++◌, ◌+◌, ℕ, suc, zero, Bool, false, List, [], ◌∷◌, sym, ap, append_assoc}
use Rattle.std.proofs.Common.{append-nil, arith, encode_utf8, length, nat_le}
use Rattle.std.specs.Str.{chars, IsUtf8}
use Rattle.std.proofs.lemmas.List.{nil_from_length}
use Rattle.std.proofs.lemmas.Str.{chars-nil, chars_past_char, IsUtf8-past_char}
use Rattle.outline.specs.Line.{in_line, one_line, times}

-- one more copy of the text at the end
times_last : (k : ℕ) (text : List ℕ) → times (suc k) text ≡ times k text ++ text
times_last zero text = append-nil text
times_last (suc k) text = ap (λ l. text ++ l) (times_last k text) ∙ sym (append_assoc text (times k text) text)

pub times_more : (k : ℕ) (text : List ℕ) → times (k + 1) text ≡ times k text ++ text
times_more k text = let next : k + 1 ≡ suc k = omega arith in ap (λ n. times n text) next ∙ times_last k text

-- the text so far, with the rest after a gap or not, is the whole text on one line
pub record IsInLine (text rest : List ℕ) (gap : Bool) (out : List ℕ) : Type 0 where
  pub utf8 : IsUtf8 rest
  pub all : out ++ one_line gap (chars rest) ≡ one_line false (chars text)

pub in_line_start : (text out : List ℕ) → IsUtf8 text → out ≡ [] → IsInLine text text false out
in_line_start text out utf8 none = record { utf8 = utf8; all = ap (λ l. l ++ one_line false (chars text)) none }

pub in_line_one : (text rest more out new : List ℕ) (gap after : Bool) (c : ℕ) → IsInLine text rest gap out
    → rest ≡ encode_utf8 c ++ more → new ≡ out ++ in_line gap c → after ≡ nat_le c 32
    → IsInLine text more after new
in_line_one text rest more out new gap after c so split pushed is =
    let next : chars rest ≡ c ∷ chars more = chars_past_char rest more c so.utf8 split in
    rw is (record {
      utf8 = IsUtf8-past_char rest more c so.utf8 split;
      all = ap (λ l. l ++ one_line (nat_le c 32) (chars more)) pushed
          ∙ (append_assoc out (in_line gap c) (one_line (nat_le c 32) (chars more))
          ∙ (ap (λ l. out ++ one_line gap l) (sym next) ∙ so.all));
    })

pub in_line_end : (text rest out : List ℕ) (gap : Bool) → IsInLine text rest gap out → length rest ≡ 0
    → out ≡ one_line false (chars text)
in_line_end text rest out gap so none =
    let nil : chars rest ≡ [] = ap chars (nil_from_length rest none) ∙ chars-nil in
    sym (append-nil out) ∙ (ap (λ l. out ++ one_line gap l) (sym nil) ∙ so.all)

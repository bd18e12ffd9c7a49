-- The controls of direction on a line, character by character.
use Rattle.std.proofs.Common.{◌≡◌, ◌∙◌, ◌++◌, ◌==◌, ℕ, Bool, true, false, not, List, [], ◌∷◌, Some, None}
use Rattle.std.proofs.Common.{refl, sym, ap, encode_utf8, length, reverse, arith, ne_eqb}
use Rattle.std.specs.Prelude.{cond, if◌then◌else◌}
use Rattle.std.specs.Str.{chars, IsUtf8}
use Rattle.std.proofs.lemmas.List.{nil_from_length, reverse-append}
use Rattle.std.proofs.lemmas.List.Sums.{take_while-cons}
use Rattle.std.proofs.lemmas.Str.{chars-nil, chars_past_char, IsUtf8-past_char}
use Rattle.pm_span.specs.CharOffset.{is_line_feed}
use Rattle.rust_check.specs.Turns.{all_open, closes_all, fed_line, is_balanced, open_after}

-- the part of the line before `rest` is read, and `opened` has the parts that are open
pub record IsTurned (text rest : List ℕ) (opened : List Bool) : Type 0 where
  pub utf8 : IsUtf8 rest
  pub all : all_open (Some (reverse opened)) (fed_line (chars rest)) ≡ all_open (Some []) (fed_line (chars text))

pub turned_start : (text : List ℕ) → IsUtf8 text → IsTurned text text []
turned_start text utf8 = record { utf8 = utf8; all = refl }

none_open : (line : List ℕ) → all_open None line ≡ None
none_open [] = refl
none_open (c ∷ line) = none_open line

line_on : (c : ℕ) (rest : List ℕ) → (c == 10) ≡ false → fed_line (c ∷ rest) ≡ c ∷ fed_line rest
line_on c rest goes =
    take_while-cons (λ d. not (is_line_feed d)) c rest ∙ ap (λ b. cond (not b) (c ∷ fed_line rest) []) goes

line_off : (c : ℕ) (rest : List ℕ) → (c == 10) ≡ true → fed_line (c ∷ rest) ≡ []
line_off c rest ends =
    take_while-cons (λ d. not (is_line_feed d)) c rest ∙ ap (λ b. cond (not b) (c ∷ fed_line rest) []) ends

read_one : (text rest more : List ℕ) (opened : List Bool) (c : ℕ) → IsTurned text rest opened
    → rest ≡ encode_utf8 c ++ more → (c == 10) ≡ false
    → all_open (open_after (Some (reverse opened)) c) (fed_line (chars more))
    ≡ all_open (Some []) (fed_line (chars text))
read_one text rest more opened c so split goes =
    ap (all_open (Some (reverse opened)))
    (sym (ap fed_line (chars_past_char rest more c so.utf8 split) ∙ line_on c (chars more) goes))
    ∙ so.all

-- a character that is in balance keeps the invariant
pub turned_one : (text rest more : List ℕ) (opened next : List Bool) (is : Bool) (c : ℕ) → IsTurned text rest opened
    → rest ≡ encode_utf8 c ++ more → (c == 10) ≡ false
    → open_after (Some (reverse opened)) c ≡ (if is then Some (reverse next) else None) → is ≡ true
    → IsTurned text more next
turned_one text rest more opened next is c so split goes turns goes_well = record {
  utf8 = IsUtf8-past_char rest more c so.utf8 split;
  all = ap (λ o. all_open o (fed_line (chars more)))
      (sym (turns ∙ ap (λ b. if b then Some (reverse next) else None) goes_well))
      ∙ read_one text rest more opened c so split goes;
}

-- a line with a character that is not in balance is not balanced
pub turned_wrong : (text rest more : List ℕ) (opened next : List Bool) (is : Bool) (c : ℕ) → IsTurned text rest opened
    → rest ≡ encode_utf8 c ++ more → (c == 10) ≡ false
    → open_after (Some (reverse opened)) c ≡ (if is then Some (reverse next) else None) → is ≡ false
    → false ≡ is_balanced (chars text)
turned_wrong text rest more opened next is c so split goes turns goes_wrong =
    ap closes_all (sym (none_open (fed_line (chars more)))
    ∙ (ap (λ o. all_open o (fed_line (chars more)))
    (sym (turns ∙ ap (λ b. if b then Some (reverse next) else None) goes_wrong))
    ∙ read_one text rest more opened c so split goes))

-- at LF the line is balanced exactly if nothing is open
pub turned_stop : (text rest more : List ℕ) (opened : List Bool) (c : ℕ) → IsTurned text rest opened
    → rest ≡ encode_utf8 c ++ more → (c == 10) ≡ true → closes_all (Some (reverse opened)) ≡ is_balanced (chars text)
turned_stop text rest more opened c so split ends =
    ap closes_all (ap (all_open (Some (reverse opened)))
    (sym (ap fed_line (chars_past_char rest more c so.utf8 split) ∙ line_off c (chars more) ends)) ∙ so.all)

pub turned_end : (text rest : List ℕ) (opened : List Bool) → IsTurned text rest opened → length rest ≡ 0
    → closes_all (Some (reverse opened)) ≡ is_balanced (chars text)
turned_end text rest opened so none =
    let nil : chars rest ≡ [] = ap chars (nil_from_length rest none) ∙ chars-nil in
    ap closes_all (ap (λ l. all_open (Some (reverse opened)) (fed_line l)) (sym nil) ∙ so.all)

-- nothing is open exactly if the list has no items
pub closes_items : (items : List Bool) → (length items == 0) ≡ closes_all (Some (reverse items))
closes_items [] = refl
closes_items (x ∷ items) =
    ne_eqb _ 0 (λ e. omega (arith, e))
    ∙ (still_open (reverse items) x ∙ ap (λ l. closes_all (Some l)) (sym (reverse-append (x ∷ []) items)))
  where
    still_open : (l : List Bool) (y : Bool) → false ≡ closes_all (Some (l ++ (y ∷ [])))
    still_open [] y = refl
    still_open (z ∷ l) y = refl

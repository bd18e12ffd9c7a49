-- A literal between quotes, decided by a few bytes.
use Rattle.std.proofs.Common.{◌-◌, ◌≤◌, ◌≡◌, ℕ, Bool, true, not, ◌&&◌, inl, inr, List, [], ◌∷◌, ◌++◌}
use Rattle.std.proofs.Common.{length, get_or, take, drop, nat_lt, refl, sym, ap, ap₂, ◌∙◌, subst, arith}
use Rattle.std.proofs.Common.{length-append, ltb-true, suc}
use Rattle.std.specs.List.{list_all}
use Rattle.std.specs.Str.{chars, IsAscii, IsUtf8}
use Rattle.std.proofs.lemmas.Bool.{and_parts, and_from, lt-ltb, not-true}
use Rattle.std.proofs.lemmas.List.{take_at, drop_at}
use Rattle.lexical.specs.Ascii.{all_ascii}
use Rattle.lexical.specs.Class.{is_ident_start}
use Rattle.lexical.specs.Form.{Form}
use Rattle.lexical.specs.Found.{IsPieceAt, LendsText, kind_of}
use Rattle.lexical.specs.Literal.{Literal}
use Rattle.lexical.specs.Number.{Number}
use Rattle.lexical.specs.Piece.{IsPiece}
use Rattle.lexical.specs.Quick.{IsAsciiAt}
use Rattle.lexical.specs.Quoted.{ByteStr, Str, close}
use Rattle.lexical.specs.Rule.{Stands}
use Rattle.lexical.specs.SingleQuoted.{Byte, Character, is_char_plain}
use Rattle.lexical.specs.declared.piece.Piece.{Piece}
use Rattle.lexical.specs.declared.piece.PieceKind.TheVariants as kinds
use Rattle.lexical.proofs.FastPathLemmas.{at_other, low_fails}
use Rattle.lexical.proofs.QuotedLemmas.{no_name}
use Rattle.lexical.proofs.TextLemmas.{front_len}

-- an ASCII prefix of a text that is a piece of the form
pub ascii_at : (A : Form) (text p rest : List ℕ) (n : ℕ) → text ≡ p ++ rest → n ≡ length p → all_ascii p ≡ true
    → A p (chars rest) → IsAsciiAt A text n
ascii_at A text p rest n whole size ascii stands =
    let front : take n text ≡ p = ap (take n) whole ∙ take_at p rest n (sym size) in
    let back : drop n text ≡ rest = ap (drop n) whole ∙ drop_at p rest n (sym size) in
    record {
      within = omega (arith, size, ap length whole, length-append p rest);
      ascii = ap all_ascii front ∙ ascii;
      stands = subst (λ q. A q (chars (drop n text))) (sym front) (subst (λ r. A p (chars r)) (sym back) stands);
    }

-- whether a literal without a suffix ends before the byte
abbrev pub ends : ℕ → Bool
ends c = nat_lt c 128 && not (is_ident_start c)

-- a quote closes a literal without a suffix
pub closes : (quote : ℕ) (rest : List ℕ) → ends (get_or rest 0 32) ≡ true
    → Stands (close (quote ∷ [])) (quote ∷ []) (chars rest)
closes quote rest ended =
    let parts = and_parts _ _ ended in
    let none = low_fails is_ident_start rest (ltb-true (get_or rest 0 32) 128 parts.0) (not-true _ parts.1) in
    record { front = quote ∷ []; back = []; whole = refl; first = refl; second = inr (no_name (chars rest) none, refl) }

-- ---- character literals

character_stands : (c : ℕ) (rest : List ℕ) → is_char_plain c ≡ true → ends (get_or rest 0 32) ≡ true
    → Character (39 ∷ (c ∷ (39 ∷ []))) (chars rest)
character_stands c rest plain ended = record {
  front = 39 ∷ [];
  back = c ∷ (39 ∷ []);
  whole = refl;
  first = refl;
  second = record {
    front = c ∷ [];
    back = 39 ∷ [];
    whole = refl;
    first = inl (c, refl, plain);
    second = closes 39 rest ended;
  };
}

-- ---- bytes that pass

pub ascii_all : (bs : List ℕ) → IsAscii bs → all_ascii bs ≡ true
ascii_all [] low = refl
ascii_all (b ∷ bs) low = and_from _ _ (lt-ltb b 128 (low 0)) (ascii_all bs (λ i. low (suc i)))

pub all_same : (test other : ℕ → Bool) → ((c : ℕ) → test c ≡ other c) → (cs : List ℕ)
    → list_all test cs ≡ list_all other cs
all_same test other same [] = refl
all_same test other same (c ∷ cs) = ap₂ (λ x y. x && y) (same c) (all_same test other same cs)

-- ---- as a piece

pub literal_piece : (A : Form) (first : Bool) (text : List ℕ) (n : ℕ) → ((p r : List ℕ) → A p r → Literal p r)
    → IsAsciiAt A text n → IsAsciiAt (λ p r. IsPiece first (kind_of kinds.Literal p) p r) text n
literal_piece A first text n to at = at_other _ _ text n (λ p r h. (refl, inl (to p r h))) at

pub number_literal : (p r : List ℕ) → Number p r → Literal p r
unfolding Literal
number_literal p r h = inr h

pub character_literal : (p r : List ℕ) → Character p r → Literal p r
unfolding Literal
character_literal p r h = inl (inr (inl h))

pub byte_literal : (p r : List ℕ) → Byte p r → Literal p r
unfolding Literal
byte_literal p r h = inl (inr (inr (inr (inl h))))

pub string_literal : (p r : List ℕ) → Str p r → Literal p r
unfolding Literal
string_literal p r h = inl (inl (inl h))

pub byte_string_literal : (p r : List ℕ) → ByteStr p r → Literal p r
unfolding Literal
byte_string_literal p r h = inl (inr (inr (inl (inl h))))

-- ---- a character past ASCII

wide_whole : (text inside after rest : List ℕ) (quote c : ℕ) → chars text ≡ quote ∷ chars inside → quote ≡ 39
    → chars inside ≡ c ∷ chars after → chars after ≡ 39 ∷ chars rest
    → chars text ≡ (39 ∷ (c ∷ (39 ∷ []))) ++ chars rest
wide_whole text inside after rest quote c front is back close =
    front ∙ (ap (λ q. q ∷ chars inside) is ∙ ap (λ x. 39 ∷ x) (back ∙ ap (λ x. c ∷ x) close))

pub wide_fits : (text inside after rest : List ℕ) (quote c : ℕ) → IsUtf8 text → IsUtf8 rest
    → chars text ≡ quote ∷ chars inside → quote ≡ 39 → chars inside ≡ c ∷ chars after → chars after ≡ 39 ∷ chars rest
    → length rest ≤ length text
wide_fits text inside after rest quote c utf8 also front is back close =
    omega (
      arith,
      front_len text rest (39 ∷ (c ∷ (39 ∷ []))) utf8 also
          (wide_whole text inside after rest quote c front is back close),
    )

pub wide_read : (first : Bool) (text inside after rest : List ℕ) (quote c : ℕ) (piece : Piece) → IsUtf8 text
    → IsUtf8 rest → chars text ≡ quote ∷ chars inside → quote ≡ 39 → chars inside ≡ c ∷ chars after
    → chars after ≡ 39 ∷ chars rest → is_char_plain c ≡ true → ends (get_or rest 0 32) ≡ true
    → piece.kind ≡ kinds.Literal → piece.bytes ≡ length text - length rest → piece.chars ≡ 3
    → IsPieceAt first (chars text) piece
unfolding Literal
wide_read first text inside after rest quote c piece utf8 also front is back close plain ended kind bytes count =
    let p : List ℕ = 39 ∷ (c ∷ (39 ∷ [])) in
    let whole = wide_whole text inside after rest quote c front is back close in
    let stands : IsPiece first (kind_of kinds.Literal p) p (chars rest) =
    (refl, inl (inl (inr (inl (character_stands c rest plain ended))))) in
    record {
      front = p;
      rest = chars rest;
      whole = whole;
      stands = subst (λ k. IsPiece first (kind_of k p) p (chars rest)) (sym kind) stands;
      bytes = bytes ∙ omega (arith, front_len text rest p utf8 also whole);
      chars = count;
      lends = subst LendsText (sym kind) tt;
    }

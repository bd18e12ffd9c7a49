-- A line comment, decided by a few bytes.
use Rattle.std.proofs.Common.{◌≡◌, ℕ, ◌+◌, ◌<◌, Bool, true, false, not, ◌==◌, inl, inr, List, [], ◌∷◌, ◌++◌}
use Rattle.std.proofs.Common.{Bor, codes, length, get_or, take, drop, refl, sym, ap, ◌∙◌, subst}
use Rattle.std.proofs.Common.{arith, get_or-drop, length-drop, nat_lt}
use Rattle.std.proofs.Common.{append-nil, ap₂, ne_eqb, zero, suc, ◌≤◌}
use Rattle.std.specs.List.{list_all}
use Rattle.std.specs.Str.{chars, IsCharBoundary, IsUtf8}
use Rattle.std.proofs.lemmas.Bool.{both_ways, and_parts, and_from, and_left, or_parts, or_from, cond-false}
use Rattle.std.proofs.lemmas.Bool.{false_from_ne_true, not-true, not_from_false, lt-ltb}
use Rattle.std.proofs.lemmas.List.Folds.{list_all-append}
use Rattle.std.proofs.lemmas.Str.{chars-IsAscii, chars-nil}
use Rattle.lexical.specs.Ascii.{all_ascii}
use Rattle.lexical.specs.Comment.{Comment, closing, has_bare_return, is_doc, is_inner}
use Rattle.lexical.specs.Found.{kind_of}
use Rattle.lexical.specs.Form.{Form}
use Rattle.lexical.specs.Piece.{IsPiece, Gap, Doc}
use Rattle.lexical.specs.Quick.{IsAsciiAt, Line, is_line_plain}
use Rattle.lexical.specs.MachineWord.{is_line_ascii}
use Rattle.lexical.specs.Text.{begins_with, ends_with, first_passes}
use Rattle.lexical.specs.declared.piece.PieceKind.TheVariants as kinds
use Rattle.lexical.proofs.FastPathLemmas.{front_fails, low_fails, fast_cut}
use Rattle.lexical.proofs.TextLemmas.{all_pass, ends_splits, is_ascii}

-- ---- the rest of a line

line_ends : (rest : List ℕ) → (0 < length rest → get_or rest 0 0 ≡ 10)
    → first_passes (λ c. not (c == 10)) (chars rest) ≡ false
line_ends [] feed = ap (first_passes (λ c. not (c == 10))) chars-nil
line_ends (b ∷ rest) feed =
    low_fails (λ c. not (c == 10)) (b ∷ rest) (omega (arith, feed (omega arith)))
    (ap (λ x. not (x == 10)) (feed (omega arith)))

-- n ASCII bytes that continue the line are its rest, if a LF or nothing follows them
pub line_read : (text bytes : List ℕ) (n : ℕ) → bytes ≡ text → n ≤ length bytes
    → list_all is_line_ascii (take n bytes) ≡ true → (n < length bytes → get_or bytes n 0 ≡ 10) → IsAsciiAt Line text n
line_read text bytes n same within all feed =
    subst (λ t. IsAsciiAt Line t n) same (record {
      within = within;
      ascii = all_pass is_line_ascii (λ c. nat_lt c 128) (λ c h. (and_parts _ _ h).0) (take n bytes) all;
      stands = (
        all_pass is_line_ascii is_line_plain (λ c h. (and_parts _ _ h).1) (take n bytes) all,
        line_ends (drop n bytes)
            (λ some. get_or-drop n bytes 0 0 ∙ ap (λ k. get_or bytes k 0) (omega arith)
            ∙ feed (omega (arith, some, length-drop n bytes, within))),
      );
    })

-- ---- comments

plain_feed : (c : ℕ) → is_line_plain c ≡ true → not (c == 10) ≡ true
plain_feed c h = not_from_false _ (or_parts _ _ (not-true _ h)).0

plain_return : (c : ℕ) → is_line_plain c ≡ true → (c == 13) ≡ false
plain_return c h = (or_parts _ _ (not-true _ h)).1

-- `//` and the rest of the line are a line comment
line_comment_at : (q r : List ℕ) → list_all is_line_plain q ≡ true → first_passes (λ c. not (c == 10)) r ≡ false
    → Comment (47 ∷ (47 ∷ q)) r
line_comment_at q r all stops = inl (record {
  front = codes "//";
  back = q;
  whole = refl;
  first = refl;
  second = record { each = all_pass is_line_plain (λ c. not (c == 10)) plain_feed q all; stops = stops };
})

first_of_line : (c : ℕ) (rest : List ℕ) (n : ℕ) → (get_or rest 0 32 ≡ c → ⊥)
    → first_passes (λ d. d == c) (take n rest) ≡ false
first_of_line c rest zero other = refl
first_of_line c [] (suc n) other = refl
first_of_line c (b ∷ rest) (suc n) other = ne_eqb b c other

-- one more ASCII byte before a piece of the first form makes a piece of the second
cons_at : (A B : Form) (a : ℕ) (rest : List ℕ) (n : ℕ) → a < 128 → ((p r : List ℕ) → A p r → B (a ∷ p) r)
    → IsAsciiAt A rest n → IsAsciiAt B (a ∷ rest) (suc n)
cons_at A B a rest n low to at = record {
  within = omega (arith, at.within);
  ascii = and_from _ _ (lt-ltb a 128 low) at.ascii;
  stands = to (take n rest) (chars (drop n rest)) at.stands;
}

-- the rest of a line has the text of its bytes
this_line : (rest : List ℕ) (n : ℕ) → IsAsciiAt Line rest n → IsAsciiAt (λ p r. Line p r × (p ≡ take n rest)) rest n
this_line rest n at = record { within = at.within; ascii = at.ascii; stands = (at.stands, refl) }

no_return : (p : List ℕ) → list_all is_line_plain p ≡ true → ends_with 13 p ≡ false
no_return p all = false_from_ne_true _ (λ is.
    let split = ends_splits 13 p is in
    let parts = and_parts (list_all is_line_plain split.0) (list_all is_line_plain (13 ∷ []))
    (sym (list_all-append is_line_plain split.0 (13 ∷ [])) ∙ (ap (list_all is_line_plain) (sym split.1) ∙ all)) in
    both_ways (list_all is_line_plain (13 ∷ [])) refl parts.1)

no_bare : (p : List ℕ) → list_all is_line_plain p ≡ true → has_bare_return p ≡ false
no_bare [] all = refl
no_bare (c ∷ p) all =
    let parts = and_parts _ _ all in
    or_from _ _ (and_left _ _ (plain_return c parts.0)) (no_bare p parts.1)

-- a line comment that is no doc comment is a gap
gap_line : (first : Bool) (p r : List ℕ) → first_passes (λ d. d == 47) p ≡ false → first_passes (λ d. d == 33) p ≡ false
    → Line p r → IsPiece first Gap (47 ∷ (47 ∷ p)) r
gap_line first p r slash mark line =
    let other : is_doc (47 ∷ (47 ∷ p)) ≡ false =
    or_from _ _ (or_from _ _ (front_fails 33 [] p mark) refl)
    (and_left _ _ (or_from _ _ (front_fails 47 [] p slash) refl)) in
    inr (line_comment_at p r line.0 line.1, not_from_false _ other)

-- a line comment that is a doc comment is a piece with its text
doc_line : (first inner : Bool) (c : ℕ) (p r : List ℕ) → is_line_plain c ≡ true
    → is_inner (47 ∷ (47 ∷ (c ∷ p))) ≡ inner → is_doc (47 ∷ (47 ∷ (c ∷ p))) ≡ true
    → Line p r → IsPiece first (Doc inner p) (47 ∷ (47 ∷ (c ∷ p))) r
doc_line first inner c p r plain inward doc line =
    let all : list_all is_line_plain (47 ∷ (47 ∷ (c ∷ p))) ≡ true =
    and_from _ _ refl (and_from _ _ refl (and_from _ _ plain line.0)) in
    let ended : ends_with 13 (47 ∷ (47 ∷ (c ∷ p))) ≡ false = no_return (47 ∷ (47 ∷ (c ∷ p))) all in
    let closed : closing (47 ∷ (47 ∷ (c ∷ p))) r ≡ [] = cond-false _ _ _ (and_left _ _ ended) in
    record {
      comment = (line_comment_at (c ∷ p) r (and_from _ _ plain line.0) line.1, doc);
      inward = sym inward;
      front = 47 ∷ (47 ∷ (c ∷ []));
      three = refl;
      whole = ap (λ x. 47 ∷ (47 ∷ (c ∷ x))) (sym (append-nil p) ∙ ap (λ x. p ++ x) (sym closed));
      returns = no_bare p line.0;
    }

-- ---- by the bytes of the text

pub gap_read : (first : Bool) (text rest : List ℕ) (n : ℕ) → get_or text 0 32 ≡ 47 → get_or text 1 32 ≡ 47
    → rest ≡ drop 2 text → (get_or text 2 32 ≡ 47 → ⊥) → (get_or text 2 32 ≡ 33 → ⊥) → IsAsciiAt Line rest n
    → IsAsciiAt (λ p r. IsPiece first (kind_of kinds.Gap p) p r) text (n + 2)
gap_read first [] rest n a b is slash mark line = absurd (omega (arith, a))
gap_read first (c ∷ []) rest n a b is slash mark line = absurd (omega (arith, b))
gap_read first (c ∷ (d ∷ text)) rest n a b is slash mark line =
    let at = this_line text n (subst (λ t. IsAsciiAt Line t n) is line) in
    let size : suc (suc n) ≡ n + 2 = omega arith in
    let whole : 47 ∷ (47 ∷ text) ≡ c ∷ (d ∷ text) = ap₂ (λ x y. x ∷ (y ∷ text)) (sym a) (sym b) in
    let piece = cons_at (λ p r. IsPiece first Gap (47 ∷ p) r) (IsPiece first Gap) 47 (47 ∷ text) (suc n) (omega arith)
    (λ p r h. h)
    (cons_at (λ p r. Line p r × (p ≡ take n text)) (λ p r. IsPiece first Gap (47 ∷ p) r) 47 text n (omega arith)
    (λ p r h. gap_line first p r (ap (first_passes (λ x. x == 47)) h.1 ∙ first_of_line 47 text n slash)
    (ap (first_passes (λ x. x == 33)) h.1 ∙ first_of_line 33 text n mark) h.0) at) in
    subst (λ m. IsAsciiAt (IsPiece first Gap) (c ∷ (d ∷ text)) m) size
    (subst (λ t. IsAsciiAt (IsPiece first Gap) t (suc (suc n))) whole piece)

doc_read : (first inner : Bool) (doc_body : Bor (List ℕ)) (text : List ℕ) (n c : ℕ) → c < 128 → is_line_plain c ≡ true
    → ((p : List ℕ) → p ≡ take n text → is_inner (47 ∷ (47 ∷ (c ∷ p))) ≡ inner)
    → ((p : List ℕ) → p ≡ take n text → is_doc (47 ∷ (47 ∷ (c ∷ p))) ≡ true)
    → doc_body.now ≡ take n text → IsAsciiAt Line text n
    → IsAsciiAt (λ p r. IsPiece first (kind_of (kinds.Doc inner doc_body) p) p r) (47 ∷ (47 ∷ (c ∷ text))) (n + 3)
doc_read first inner doc_body text n c low plain inward doc is line =
    let own : chars doc_body.now ≡ take n text =
    ap chars is ∙ chars-IsAscii (take n text) (is_ascii (take n text) line.ascii) in
    let kind = Doc inner (chars doc_body.now) in
    let size : suc (suc (suc n)) ≡ n + 3 = omega arith in
    subst (λ m. IsAsciiAt (IsPiece first kind) (47 ∷ (47 ∷ (c ∷ text))) m) size
    (cons_at (λ p r. IsPiece first kind (47 ∷ p) r) (IsPiece first kind) 47 (47 ∷ (c ∷ text)) (suc (suc n))
    (omega arith)
    (λ p r h. h)
    (cons_at (λ p r. IsPiece first kind (47 ∷ (47 ∷ p)) r) (λ p r. IsPiece first kind (47 ∷ p) r) 47 (c ∷ text) (suc n)
    (omega arith) (λ p r h. h)
    (cons_at (λ p r. Line p r × (p ≡ take n text)) (λ p r. IsPiece first kind (47 ∷ (47 ∷ p)) r) c text n low
    (λ p r h. subst (λ q. IsPiece first (Doc inner q) (47 ∷ (47 ∷ (c ∷ p))) r) (h.1 ∙ sym own)
    (doc_line first inner c p r plain (inward p h.1) (doc p h.1) h.0)) (this_line text n line))))

-- `///` without a `/` after it begins an outer doc comment
pub outer_read : (first : Bool) (doc_body : Bor (List ℕ)) (text rest : List ℕ) (n : ℕ) → get_or text 0 32 ≡ 47
    → get_or text 1 32 ≡ 47 → get_or text 2 32 ≡ 47 → (get_or text 3 32 ≡ 47 → ⊥) → rest ≡ drop 3 text
    → doc_body.now ≡ take n rest → IsAsciiAt Line rest n
    → IsAsciiAt (λ p r. IsPiece first (kind_of (kinds.Doc false doc_body) p) p r) text (n + 3)
outer_read first doc_body [] rest n a b c other is own line = absurd (omega (arith, a))
outer_read first doc_body (x ∷ []) rest n a b c other is own line = absurd (omega (arith, b))
outer_read first doc_body (x ∷ (y ∷ [])) rest n a b c other is own line = absurd (omega (arith, c))
outer_read first doc_body (x ∷ (y ∷ (z ∷ text))) rest n a b c other is own line =
    let whole : 47 ∷ (47 ∷ (47 ∷ text)) ≡ x ∷ (y ∷ (z ∷ text)) =
    ap₂ (λ u v. u ∷ (v ∷ (47 ∷ text))) (sym a) (sym b) ∙ ap (λ w. x ∷ (y ∷ (w ∷ text))) (sym c) in
    let plain = λ (p : List ℕ) (e : p ≡ take n text).
    or_from (begins_with (47 ∷ []) p) false
    (front_fails 47 [] p (ap (first_passes (λ d. d == 47)) e ∙ first_of_line 47 text n other)) refl in
    subst (λ t. IsAsciiAt (λ p r. IsPiece first (kind_of (kinds.Doc false doc_body) p) p r) t (n + 3)) whole
    (doc_read first false doc_body text n 47 (omega arith) refl (λ p e. refl) (λ p e. not_from_false _ (plain p e))
    (own ∙ ap (take n) is) (subst (λ t. IsAsciiAt Line t n) is line))

-- a text may be cut after n ASCII bytes, here two or three
pub ascii_bytes_cut : (text : List ℕ) (n : ℕ) → IsUtf8 text → all_ascii (take n text) ≡ true → n ≤ length text
    → IsCharBoundary text n
ascii_bytes_cut text n utf8 ascii within =
    fast_cut (λ p r. Unit {0}) text n utf8 (record { within = within; ascii = ascii; stands = tt })

pub two_cut : (text : List ℕ) → IsUtf8 text → get_or text 0 32 ≡ 47 → get_or text 1 32 ≡ 47 → IsCharBoundary text 2
two_cut [] utf8 a b = absurd (omega (arith, a))
two_cut (x ∷ []) utf8 a b = absurd (omega (arith, b))
two_cut (x ∷ (y ∷ text)) utf8 a b =
    ascii_bytes_cut (x ∷ (y ∷ text)) 2 utf8
    (and_from _ _ (lt-ltb x 128 (omega (arith, a))) (and_from _ _ (lt-ltb y 128 (omega (arith, b))) refl)) (omega arith)

pub three_cut : (text : List ℕ) → IsUtf8 text → get_or text 0 32 ≡ 47 → get_or text 1 32 ≡ 47
    → get_or text 2 32 < 128 → (get_or text 2 32 ≡ 32 → ⊥) → IsCharBoundary text 3
three_cut [] utf8 a b low some = absurd (omega (arith, a))
three_cut (x ∷ []) utf8 a b low some = absurd (omega (arith, b))
three_cut (x ∷ (y ∷ [])) utf8 a b low some = absurd (some refl)
three_cut (x ∷ (y ∷ (z ∷ text))) utf8 a b low some =
    ascii_bytes_cut (x ∷ (y ∷ (z ∷ text))) 3 utf8
    (and_from _ _ (lt-ltb x 128 (omega (arith, a))) (and_from _ _ (lt-ltb y 128 (omega (arith, b)))
    (and_from _ _ (lt-ltb z 128 low) refl))) (omega arith)

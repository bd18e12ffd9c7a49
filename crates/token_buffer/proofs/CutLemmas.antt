-- The bytes of names, literals and doc texts, cut from a text.
use Rattle.std.proofs.Common.{◌≡◌, ℕ, ◌+◌, ◌-◌, ◌≤◌, Bool, true, ◌&&◌, List, [], ◌∷◌, ◌++◌, codes, length, take, drop}
use Rattle.std.proofs.Common.{refl, sym, ap, ◌∙◌, subst, arith, append_assoc, length-append}
use Rattle.std.specs.Str.{chars, IsUtf8, encode_utf8_all}
use Rattle.std.proofs.lemmas.Bool.{cond_both}
use Rattle.std.proofs.lemmas.List.{drop_at}
use Rattle.std.proofs.lemmas.Str.{encodes-append, encodes-chars}
use denote.Bor.{Bor}
use Rattle.lexical.specs.Ascii.{all_ascii}
use Rattle.lexical.specs.Comment.{Doc, closing}
use Rattle.lexical.specs.Text.{begins_with, ends_with}
use Rattle.lexical.specs.Found.{IsPieceAt, LendsText, kind_of}
use Rattle.lexical.specs.Piece.{IsPiece}
use Rattle.lexical.specs.Token.{raw_front}
use Rattle.lexical.specs.declared.piece.Piece.{Piece}
use Rattle.lexical.specs.declared.piece.PieceKind.TheVariants as kinds
use Rattle.lexical.proofs.CommentKindLemmas.{doc_front, doc_body_splits}
use Rattle.lexical.proofs.TextLemmas.{ascii_bytes, seam_boundary, seam_bytes, seam_utf8, seam_rest, seam_take}
use Rattle.token_buffer.specs.Entries.{cut_chars, IsCut}

-- whether these characters are the text from lo to hi
pub record IsCutAs (text characters : List ℕ) (lo hi : ℕ) : Type 0 where
  pub within : IsCut lo hi text
  pub says : cut_chars lo hi text ≡ characters

pub cut_at : (text a b c : List ℕ) (lo hi : ℕ) → IsUtf8 text → chars text ≡ a ++ (b ++ c)
    → lo ≡ length (encode_utf8_all a) → hi ≡ lo + length (encode_utf8_all b) → IsCutAs text b lo hi
cut_at text a b c lo hi utf8 e begins ends =
    let both : length (encode_utf8_all (a ++ b)) ≡ length (encode_utf8_all a) + length (encode_utf8_all b)
    = ap length (encodes-append a b) ∙ length-append (encode_utf8_all a) (encode_utf8_all b) in
    let tail : drop lo text ≡ encode_utf8_all (b ++ c)
    = ap (drop lo) (seam_bytes text a (b ++ c) utf8 e)
    ∙ drop_at (encode_utf8_all a) (encode_utf8_all (b ++ c)) lo (sym begins) in
    record {
      within = (
        omega (arith, ends),
        seam_boundary text a (b ++ c) lo utf8 e begins,
        seam_boundary text (a ++ b) c hi utf8 (e ∙ sym (append_assoc a b c)) (omega (arith, ends, begins, both)),
      );
      says = ap (λ bytes. chars (take (hi - lo) bytes)) tail
          ∙ seam_take (encode_utf8_all (b ++ c)) b c (hi - lo) (seam_utf8 text a (b ++ c) utf8 e)
          (seam_rest text a (b ++ c) utf8 e) (omega (arith, ends));
    }

-- ---- literals

pub literal_cut : (first : Bool) (text passed source : List ℕ) (lo : ℕ) (piece : Piece) → IsUtf8 text
    → chars text ≡ passed ++ source → lo ≡ length (encode_utf8_all passed) → (found : IsPieceAt first source piece)
    → IsCutAs text found.front lo (lo + piece.bytes)
literal_cut first text passed source lo piece utf8 e begins found =
    cut_at text passed found.front found.rest lo (lo + piece.bytes) utf8
    (e ∙ ap (λ x. passed ++ x) found.whole) begins (ap (λ n. lo + n) found.bytes)

-- ---- names

pub name_front : (first : Bool) (source : List ℕ) (piece : Piece) (raw : Bool) (name : Bor (List ℕ))
    → (found : IsPieceAt first source piece) → piece.kind ≡ kinds.Name raw name
    → found.front ≡ raw_front raw ++ chars name.now
name_front first source piece raw name found is =
    (subst (λ kind. IsPiece first (kind_of kind found.front) found.front found.rest) is found.stands).0

name_bytes : (first : Bool) (source : List ℕ) (piece : Piece) (raw : Bool) (name : Bor (List ℕ))
    → (found : IsPieceAt first source piece) → piece.kind ≡ kinds.Name raw name
    → (encode_utf8_all (chars name.now) ≡ name.now)
    × (piece.bytes ≡ length (encode_utf8_all (raw_front raw)) + length name.now)
name_bytes first source piece raw name found is =
    let own = encodes-chars name.now (subst LendsText is found.lends) in (
      own,
      found.bytes ∙ (ap length (ap encode_utf8_all (name_front first source piece raw name found is)
          ∙ (encodes-append (raw_front raw) (chars name.now) ∙ ap (λ x. encode_utf8_all (raw_front raw) ++ x) own))
          ∙ length-append (encode_utf8_all (raw_front raw)) name.now),
    )

-- a name has at most as many bytes as its piece
pub name_fits : (first : Bool) (source : List ℕ) (piece : Piece) (raw : Bool) (name : Bor (List ℕ))
    → IsPieceAt first source piece → piece.kind ≡ kinds.Name raw name → length name.now ≤ piece.bytes
name_fits first source piece raw name found is =
    let bytes = name_bytes first source piece raw name found is in omega (arith, bytes.1)

pub name_cut : (first : Bool) (text passed source : List ℕ) (lo : ℕ) (piece : Piece) (raw : Bool) (name : Bor (List ℕ))
    → IsUtf8 text → chars text ≡ passed ++ source → lo ≡ length (encode_utf8_all passed)
    → (found : IsPieceAt first source piece) → piece.kind ≡ kinds.Name raw name
    → IsCutAs text (chars name.now) (lo + piece.bytes - length name.now) (lo + piece.bytes)
name_cut first text passed source lo piece raw name utf8 e begins found is =
    let bytes = name_bytes first source piece raw name found is in
    let front = raw_front raw in
    let split : chars text ≡ (passed ++ front) ++ (chars name.now ++ found.rest)
    = e ∙ (ap (λ x. passed ++ x) (found.whole ∙ (ap (λ x. x ++ found.rest)
    (name_front first source piece raw name found is) ∙ append_assoc front (chars name.now) found.rest))
    ∙ sym (append_assoc passed front (chars name.now ++ found.rest))) in
    let size : length (encode_utf8_all (passed ++ front))
    ≡ length (encode_utf8_all passed) + length (encode_utf8_all front)
    = ap length (encodes-append passed front) ∙ length-append (encode_utf8_all passed) (encode_utf8_all front) in
    let own : length (encode_utf8_all (chars name.now)) ≡ length name.now = ap length bytes.0 in
    cut_at text (passed ++ front) (chars name.now) found.rest (lo + piece.bytes - length name.now) (lo + piece.bytes)
    utf8 split (omega (arith, bytes.1, begins, size)) (omega (arith, bytes.1, own))

-- ---- doc comments

-- the characters after a doc comment's text are few, and ASCII
pub closing_small : (p r : List ℕ) → (all_ascii (closing p r) ≡ true) × (length (closing p r) ≤ 2)
closing_small p r =
    let IsSmall : List ℕ → Type 0 = λ x. (all_ascii x ≡ true) × (length x ≤ 2) in
    let block : IsSmall (codes "*/") = (refl, omega arith) in
    let returned : IsSmall (13 ∷ []) = (refl, omega arith) in
    let none : IsSmall [] = (refl, omega arith) in
    cond_both (begins_with (codes "/*") p) (codes "*/") _ IsSmall (λ e. block)
    (λ e. cond_both (ends_with 13 p && begins_with (codes "\n") r) (13 ∷ []) [] IsSmall (λ f. returned) (λ f. none))

-- the parts of a doc comment: three characters, its text and the closing characters
pub record DocParts (text : List ℕ) (p r : List ℕ) : Type 0 where
  pub front : List ℕ
  pub whole : p ≡ front ++ (text ++ closing p r)
  pub three : length front ≡ 3
  pub bytes : length (encode_utf8_all front) ≡ 3
  pub all_bytes : length (encode_utf8_all p) ≡ 3 + (length (encode_utf8_all text) + length (closing p r))
  pub characters : length p ≡ 3 + (length text + length (closing p r))
  pub few : length (closing p r) ≤ 2

pub doc_parts : (inner : Bool) (text p r : List ℕ) → Doc inner text p r → DocParts text p r
doc_parts inner text p r h =
    let begins = doc_front p h.comment.1 in
    let whole : p ≡ begins.front ++ (text ++ closing p r)
    = begins.whole ∙ ap (λ x. begins.front ++ x) (doc_body_splits inner text p r h) in
    let small = closing_small p r in
    let last : length (encode_utf8_all (closing p r)) ≡ length (closing p r) = ascii_bytes (closing p r) small.0 in
    let three : 3 ≡ length (encode_utf8_all begins.front) = begins.bytes in
    let tail : length (encode_utf8_all (text ++ closing p r))
    ≡ length (encode_utf8_all text) + length (encode_utf8_all (closing p r))
    = ap length (encodes-append text (closing p r))
    ∙ length-append (encode_utf8_all text) (encode_utf8_all (closing p r)) in
    let all : length (encode_utf8_all p)
    ≡ length (encode_utf8_all begins.front) + length (encode_utf8_all (text ++ closing p r))
    = ap length (ap encode_utf8_all whole ∙ encodes-append begins.front (text ++ closing p r))
    ∙ length-append (encode_utf8_all begins.front) (encode_utf8_all (text ++ closing p r)) in
    record {
      front = begins.front;
      whole = whole;
      three = begins.three;
      bytes = sym three;
      all_bytes = omega (arith, all, tail, last, three);
      characters = omega (
        arith,
        ap length whole,
        length-append begins.front (text ++ closing p r),
        length-append text (closing p r),
        begins.three,
      );
      few = small.1;
    }

pub doc_cut : (text passed p rest : List ℕ) (doc_body : List ℕ) (lo : ℕ) → IsUtf8 text
    → chars text ≡ passed ++ (p ++ rest) → lo ≡ length (encode_utf8_all passed) → DocParts doc_body p rest
    → IsCutAs text doc_body (lo + 3) (lo + 3 + length (encode_utf8_all doc_body))
doc_cut text passed p rest doc_body lo utf8 e begins parts =
    let split : chars text ≡ (passed ++ parts.front) ++ (doc_body ++ (closing p rest ++ rest))
    = e ∙ (ap (λ x. passed ++ (x ++ rest)) parts.whole
    ∙ simp append_assoc refl) in
    let size : length (encode_utf8_all (passed ++ parts.front))
    ≡ length (encode_utf8_all passed) + length (encode_utf8_all parts.front)
    = ap length (encodes-append passed parts.front)
    ∙ length-append (encode_utf8_all passed) (encode_utf8_all parts.front) in
    cut_at text (passed ++ parts.front) doc_body (closing p rest ++ rest) (lo + 3)
    (lo + 3 + length (encode_utf8_all doc_body)) utf8 split (omega (arith, begins, size, parts.bytes)) refl

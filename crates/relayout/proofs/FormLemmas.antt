-- The doc comment that can hold a text.
use Rattle.std.proofs.Common.{◌≡◌, ℕ, Bool, true, false, List, [], ◌++◌, codes, refl, length}
use Rattle.std.proofs.Common.{sym, ap, ◌∙◌, subst, inl, inr, ap₂, append_assoc, append-nil, Bor, drop}
use Rattle.std.specs.Str.{chars, IsUtf8, encode_utf8_all}
use Rattle.std.proofs.Math.Bool.{beq}
use Rattle.std.proofs.Math.Seq.{drop-length}
use Rattle.std.proofs.lemmas.Str.{chars-nil, encodes-chars}
use Rattle.std.proofs.lemmas.Bool.{both_ways, cond-true, cond-false}
use Rattle.lexical.specs.Comment.{Doc}
use Rattle.lexical.specs.Found.{IsPieceAt, LendsText, kind_of}
use Rattle.lexical.specs.Piece as pieces
use Rattle.lexical.specs.declared.piece.Piece.{Piece}
use Rattle.lexical.specs.declared.piece.PieceKind.{PieceKind}
use Rattle.lexical.specs.declared.piece.PieceKind.TheVariants as kinds
use Rattle.lexical.proofs.PieceFacts.{piece_rest}
use Rattle.lexical.proofs.PieceLemmas.{one_piece}
use Rattle.pm_token.proofs.ShortLemmas.{same_bytes}
use Rattle.relayout.specs.Commented.{CanHold, IsDocBlock, block_comment, block_front, comment_front, doc_comment}
use Rattle.relayout.specs.Commented.{has_no_return, is_doc_line}

-- ---- characters of constant texts

pub comment_chars : (inner : Bool) → chars (comment_front inner) ≡ comment_front inner
unfolding chars
comment_chars true = refl
comment_chars false = refl

pub block_chars : (inner : Bool) → chars (block_front inner) ≡ block_front inner
unfolding chars
block_chars true = refl
block_chars false = refl

pub feed_chars : chars (codes "\n") ≡ codes "\n"
unfolding chars
feed_chars = refl

pub end_chars : chars (codes "*/\n") ≡ codes "*/\n"
unfolding chars
end_chars = refl

pub closer_chars : chars (codes "*/") ≡ codes "*/"
unfolding chars
closer_chars = refl

-- ---- the comment with the LF after it

-- a comment of one line is its prefix, the text and LF
pub line_form : (inner : Bool) (doc_body front end : List ℕ) → is_doc_line inner doc_body ≡ true
    → front ≡ comment_front inner
    → end ≡ codes "\n" → front ++ (doc_body ++ end) ≡ doc_comment inner doc_body ++ codes "\n"
line_form inner doc_body front end line is last =
    ap (λ f. f ++ (doc_body ++ end)) is
    ∙ (ap (λ e. comment_front inner ++ (doc_body ++ e)) last
    ∙ (sym (append_assoc (comment_front inner) doc_body (codes "\n"))
    ∙ ap (λ c. c ++ codes "\n") (sym (cond-true _ _ _ line))))

-- a block is its prefix, the text, and the sign that closes it
pub block_form : (inner : Bool) (doc_body front end : List ℕ) → is_doc_line inner doc_body ≡ false
    → front ≡ block_front inner
    → end ≡ codes "*/\n" → front ++ (doc_body ++ end) ≡ doc_comment inner doc_body ++ codes "\n"
block_form inner doc_body front end other is last =
    ap (λ f. f ++ (doc_body ++ end)) is
    ∙ (ap (λ e. block_front inner ++ (doc_body ++ e)) last
    ∙ (ap (λ t. block_front inner ++ t) (sym (append_assoc doc_body (codes "*/") (codes "\n")))
    ∙ (sym (append_assoc (block_front inner) (doc_body ++ codes "*/") (codes "\n"))
    ∙ ap (λ c. c ++ codes "\n") (sym (cond-false _ _ _ other)))))

-- if no line can hold the text, only a block may
pub holds_none : (blocks inner : Bool) (doc_body : List ℕ) → is_doc_line inner doc_body ≡ false
    → (blocks ≡ true → IsDocBlock inner doc_body → ⊥) → CanHold blocks inner doc_body → ⊥
holds_none blocks inner doc_body other none (inl line) = both_ways _ other line
holds_none blocks inner doc_body other none (inr block) = none block.0 block.1

-- the text of the comment that is read
pub block_text : (inner : Bool) (doc_body closer out a b c front : List ℕ) → out ≡ [] → front ≡ block_front inner
    → closer ≡ codes "*/" → a ≡ out ++ front → b ≡ a ++ doc_body → c ≡ b ++ closer → c ≡ block_comment inner doc_body
block_text inner doc_body closer out a b c front none is last first second third =
    third ∙ (ap (λ x. x ++ closer) (second ∙ ap (λ x. x ++ doc_body) (first ∙ ap (λ x. x ++ front) none ∙ is))
    ∙ (append_assoc (block_front inner) doc_body closer ∙ ap (λ x. block_front inner ++ (doc_body ++ x)) last))

pub is_block : (inner : Bool) (doc_body comment : List ℕ) (b : Bool) → has_no_return doc_body ≡ true
    → comment ≡ block_comment inner doc_body
    → ((b ≡ true → Doc inner doc_body comment []) × (Doc inner doc_body comment [] → b ≡ true))
    → (b ≡ true → IsDocBlock inner doc_body) × (IsDocBlock inner doc_body → b ≡ true)
is_block inner doc_body comment b clear is reads = (
  λ yes. (clear, subst (λ c. Doc inner doc_body c []) is (reads.0 yes)),
  λ block. reads.1 (subst (λ c. Doc inner doc_body c []) (sym is) block.1),
)

-- ---- a text that is a doc comment

-- no doc comment is the text, if no piece begins it
pub no_doc : (inner : Bool) (doc_body comment : List ℕ) → pieces.HasNoPiece false comment
    → Doc inner doc_body comment [] → ⊥
no_doc inner doc_body comment none doc = none (pieces.Doc inner doc_body) comment [] (sym (append-nil comment)) doc

-- if the text is a doc comment, this is the piece at its start
pub doc_first : (inner : Bool) (doc_body comment : List ℕ) (piece : Piece) → (at : IsPieceAt false comment piece)
    → Doc inner doc_body comment [] → (kind_of piece.kind at.front ≡ pieces.Doc inner doc_body) × (at.front ≡ comment)
doc_first inner doc_body comment piece at doc =
    let same = one_piece false (kind_of piece.kind at.front) (pieces.Doc inner doc_body) at.front comment at.rest []
    at.stands doc (sym at.whole ∙ sym (append-nil comment)) in
    (same.0, same.1)

-- the piece has all bytes of the text, if it is a doc comment
pub doc_bytes : (inner : Bool) (doc_body comment : List ℕ) (piece : Piece) → IsUtf8 comment
    → IsPieceAt false (chars comment) piece → Doc inner doc_body (chars comment) [] → piece.bytes ≡ length comment
doc_bytes inner doc_body comment piece utf8 at doc =
    at.bytes
    ∙ ap length
    (ap encode_utf8_all (doc_first inner doc_body (chars comment) piece at doc).1 ∙ encodes-chars comment utf8)

-- a doc comment that has all bytes of the text is the whole text
pub doc_whole : (inner now : Bool) (doc_body comment : List ℕ) (text : Bor (List ℕ)) (piece : Piece) → IsUtf8 comment
    → (at : IsPieceAt false (chars comment) piece) → piece.bytes ≡ length comment → piece.kind ≡ kinds.Doc now text
    → now ≡ inner → text.now ≡ doc_body → Doc inner (chars doc_body) (chars comment) []
doc_whole inner now doc_body comment text piece utf8 at bytes is inward same =
    let rest : at.rest ≡ [] =
    sym (piece_rest false comment piece utf8 at)
    ∙ (ap (λ n. chars (drop n comment)) bytes ∙ (ap chars (drop-length comment) ∙ chars-nil)) in
    let front : at.front ≡ chars comment =
    sym (append-nil at.front) ∙ (ap (λ r. at.front ++ r) (sym rest) ∙ sym at.whole) in
    let kind : kind_of piece.kind at.front ≡ pieces.Doc inner (chars doc_body) =
    ap (λ k. kind_of k at.front) is ∙ ap₂ (λ b t. pieces.Doc b (chars t)) inward same in
    subst (λ r. pieces.IsPiece false (pieces.Doc inner (chars doc_body)) (chars comment) r) rest
    (subst (λ p. pieces.IsPiece false (pieces.Doc inner (chars doc_body)) p at.rest) front
    (subst (λ k. pieces.IsPiece false k at.front at.rest) kind at.stands))

-- the piece of a doc comment has its sort and its text
pub doc_parts : (inner now : Bool) (doc_body comment : List ℕ) (text : Bor (List ℕ)) (piece : Piece) → IsUtf8 doc_body
    → IsPieceAt false (chars comment) piece → piece.kind ≡ kinds.Doc now text
    → Doc inner (chars doc_body) (chars comment) [] → (now ≡ inner) × (text.now ≡ doc_body)
doc_parts inner now doc_body comment text piece utf8 at is doc =
    let e : ◌≡◌ {A = pieces.Kind} (pieces.Doc now (chars text.now)) (pieces.Doc inner (chars doc_body)) =
    sym (ap (λ k. kind_of k at.front) is) ∙ (doc_first inner (chars doc_body) (chars comment) piece at doc).0 in
    let inward : now ≡ inner = cc in
    let same : chars text.now ≡ chars doc_body = cc in
    (inward, same_bytes text.now doc_body (subst LendsText is at.lends) utf8 same)

-- another piece is no doc comment
pub other_kind : (k : PieceKind) (front doc_body : List ℕ) (inner : Bool)
    → ((now : Bool) (text : Bor (List ℕ)) → k ≡ kinds.Doc now text → ⊥) → kind_of k front ≡ pieces.Doc inner doc_body
    → ⊥
other_kind (kinds.Doc now text) front doc_body inner none e = none now text refl
other_kind kinds.FrontMark front doc_body inner none e = cc
other_kind kinds.Gap front doc_body inner none e = cc
other_kind (kinds.Opener c) front doc_body inner none e = cc
other_kind (kinds.Closer c) front doc_body inner none e = cc
other_kind kinds.Literal front doc_body inner none e = cc
other_kind (kinds.Mark joint mark) front doc_body inner none e = cc
other_kind (kinds.Name raw name) front doc_body inner none e = cc

-- ---- flags

pub same_flags : (a b : Bool) → beq a b ≡ true → a ≡ b
same_flags true true e = refl
same_flags false false e = refl
same_flags true false e = cc
same_flags false true e = cc

pub other_flags : (a b : Bool) → beq a b ≡ false → a ≡ b → ⊥
other_flags true true e same = cc
other_flags false false e same = cc
other_flags true false e same = cc
other_flags false true e same = cc

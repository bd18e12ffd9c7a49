-- What the lexer finds is exactly the piece at the start of the text.
use Rattle.std.proofs.Common.{◌≡◌, ℕ, Bool, true, false, ◌&&◌, ◌==◌, List, [], ◌∷◌, ◌++◌, Some, None, IfSome, inl, inr}
use Rattle.std.proofs.Common.{codes, refl, sym, ap, ◌∙◌, subst, eqb-true, eq-eqb, append_assoc}
use Rattle.std.proofs.lemmas.Bool.{both_ways, and_parts, and_from, cond-true, cond-false, cond_both, not-true}
use Rattle.std.proofs.lemmas.Bool.{not_from_false}
use Rattle.lexical.specs.Text.{begins_with, begins_any, first_of, first_passes}
use Rattle.lexical.specs.Class.{is_white, is_ident_start}
use Rattle.lexical.specs.Form.{Form, NotAt, One}
use Rattle.lexical.specs.Rule as rules
use Rattle.lexical.specs.Rule.{Rule, Stands, find}
use Rattle.lexical.specs.Token.{Name, Mark, Literal, raw_front}
use Rattle.lexical.specs.Identifier as identifiers
use Rattle.lexical.specs.Identifier.{identifier}
use Rattle.lexical.specs.Literal as literals
use Rattle.lexical.specs.Literal.{quoted_literal}
use Rattle.lexical.specs.Number.{Number, number}
use Rattle.lexical.specs.Mark as marks
use Rattle.lexical.specs.Delimiter.{is_opener, is_closer, error_literal, opener, closer}
use Rattle.lexical.specs.FrontMark as fronts
use Rattle.lexical.specs.Comment.{comment, Comment, is_doc, has_bare_return}
use Rattle.lexical.specs.Piece.{Kind, FrontMark, Gap, Doc, Open, Close, Leaf, IsPiece, HasNoPiece}
use Rattle.lexical.specs.Finder.{Answer, Finds}
use Rattle.lexical.specs.PieceFinder.{Found, find_front_mark, front_mark_kind, gap_kind, literal_kind, and_kind}
use Rattle.lexical.specs.PieceFinder.{or_found}
use Rattle.lexical.specs.PieceFinder.{with_kind, comment_found, piece_start, found_identifier, found_from, find_piece}
use Rattle.lexical.specs.PieceFinder.{opener_kind, closer_kind, name_kind, mark_kind, quote_kind, found_literal}
use Rattle.lexical.specs.CommentKind.{comment_kind, doc_text}
use Rattle.lexical.specs.declared.class.PieceStart.{PieceStart}
use Rattle.lexical.specs.declared.class.PieceStart.TheVariants as starts
use Rattle.lexical.proofs.FinderLemmas.{IsSplit, finds_if}
use Rattle.lexical.proofs.RuleLemmas.{Clear, exact}
use Rattle.lexical.proofs.NameFinderLemmas.{clear_written, written_named, named_written, named_begins, named_start}
use Rattle.lexical.proofs.NameFinderLemmas.{finds_lone_quote}
use Rattle.lexical.proofs.WordLemmas.{none_apart, front_whole}
use Rattle.lexical.proofs.LiteralFinderLemmas.{quoted_starts, quote_apart}
use Rattle.lexical.proofs.QuotedFinderLemmas.{finds_quoted}
use Rattle.lexical.proofs.NumberFinderLemmas.{finds_number, number_first}
use Rattle.lexical.proofs.CommentKindLemmas.{finds_comment, comment_first, plain_kind, doc_kind, doc_from}
use Rattle.lexical.proofs.ClassLemmas.{start_white, start_letter, start_digit, start_opener, start_closer, start_mark}
use Rattle.lexical.proofs.ClassLemmas.{start_slash, start_quote, start_double_quote, start_front_mark}

-- ---- what is found is a piece

-- whether the text is split into a piece of its kind and a rest
abbrev pub IsTagged : Bool → List ℕ → (Kind × List ℕ × List ℕ) → Type 0
IsTagged first text x = (text ≡ x.1 ++ x.2) × IsPiece first x.0 x.1 x.2

finds_front_mark : (first : Bool) → Finds (find_front_mark first) (fronts.FrontMark first)
finds_front_mark first = finds_if first _ _ (exact (rules.Exactly (0xFEFF ∷ [])) tt)

tagged_sound : (first : Bool) (A : Form) (kind : List ℕ → List ℕ → Kind)
    → ((p r : List ℕ) → A p r → IsPiece first (kind p r) p r) → (text : List ℕ) (o : Answer)
    → IfSome o (IsSplit A text) → IfSome (and_kind kind o) (IsTagged first text)
tagged_sound first A kind to text None is = tt
tagged_sound first A kind to text (Some x) is = (is.0, to x.0 x.1 is.1)

-- a piece of one character that passes is its first character
one_of_kind : (passes : ℕ → Bool) (p r : List ℕ) → One passes p r
    → (p ≡ first_of p ∷ []) × One (λ d. passes d && (d == first_of p)) p r
one_of_kind passes p r (c, e, h) =
    let is : first_of p ≡ c = ap first_of e in
    (e ∙ ap (λ x. x ∷ []) (sym is), (c, e, and_from _ _ h (eq-eqb c (first_of p) (sym is))))

mark_piece : (first : Bool) (p r : List ℕ) → marks.Mark p r → IsPiece first (mark_kind p r) p r
mark_piece first p r h = let one = one_of_kind _ p r h.0 in (one.0, inl (subst (λ q. marks.Mark q r) one.0 h, refl))

name_piece : (first raw : Bool) (p r : List ℕ) → Stands (identifier raw) p r → IsPiece first (name_kind raw p r) p r
name_piece first true p r h =
    let is = written_named true p r h.0 in
    rw is.1 (refl, (is.2, rw is.1 at h.1))
name_piece first false p r h = (refl, h)

-- a comment that is found with its kind is a piece
comment_found_sound : (first : Bool) (text : List ℕ) (o : Answer) → IfSome o (IsSplit Comment text)
    → IfSome (comment_found o) (IsTagged first text)
comment_found_sound first text None is = tt
comment_found_sound first text (Some x) is =
    cond_both (is_doc x.0) _ _ (λ o. IfSome (with_kind x o) (IsTagged first text))
    (λ doc. cond_both (has_bare_return (doc_text x.0 x.1)) _ _ (λ o. IfSome (with_kind x o) (IsTagged first text))
    (λ bare. tt)
    (λ plain. (is.0, doc_from x.0 x.1 is.1 doc plain)))
    (λ plain. (is.0, inr (is.1, not_from_false _ plain)))

-- what a rule finds is a piece of the kind
rule_sound : (first : Bool) (rule : Rule) → Clear rule → (kind : List ℕ → List ℕ → Kind)
    → ((p r : List ℕ) → Stands rule p r → IsPiece first (kind p r) p r) → (text : List ℕ)
    → IfSome (and_kind kind (find rule text)) (IsTagged first text)
rule_sound first rule clear kind to text =
    tagged_sound first (Stands rule) kind to text (find rule text) ((exact rule clear).sound text)

mark_sound : (first : Bool) (text : List ℕ) → IfSome (and_kind mark_kind (find marks.mark text)) (IsTagged first text)
mark_sound first = rule_sound first marks.mark tt mark_kind (mark_piece first)

-- the first of two answers or the second is a piece, if both are
or_sound : (first : Bool) (text : List ℕ) (o u : Found) → IfSome o (IsTagged first text)
    → IfSome u (IsTagged first text) → IfSome (or_found o u) (IsTagged first text)
or_sound first text None u one other = other
or_sound first text (Some x) u one other = one

quoted_sound : (first : Bool) (text : List ℕ) → IfSome (found_literal quoted_literal text) (IsTagged first text)
unfolding literals.Literal
quoted_sound first text = tagged_sound first literals.QuotedLiteral literal_kind (λ p r h. (refl, inl (inl h))) text _
    (finds_quoted.sound text)

number_sound : (first : Bool) (text : List ℕ) → IfSome (found_literal number text) (IsTagged first text)
unfolding literals.Literal
number_sound first text = tagged_sound first Number literal_kind (λ p r h. (refl, inl (inr h))) text _
    (finds_number.sound text)

start_sound : (first : Bool) (s : PieceStart) (text : List ℕ) → IfSome (found_from first s text) (IsTagged first text)
start_sound first starts.White text = rule_sound first (rules.One is_white) tt gap_kind (λ p r h. inl h) text
start_sound first starts.Letter text =
    let raw = begins_with (codes "r#") text in
    or_sound first text _ _ (rule_sound first (identifier raw) (clear_written raw) (name_kind raw)
    (name_piece first raw) text) (quoted_sound first text)
start_sound first starts.Digit text = number_sound first text
start_sound first starts.Opener text =
    or_sound first text _ _ (rule_sound first opener tt opener_kind
    (λ p r h. ((one_of_kind is_opener p r h.0).1, h.1)) text)
    (rule_sound first (rules.Exactly error_literal) tt literal_kind (λ p r h. (refl, inr h)) text)
start_sound first starts.Closer text =
    rule_sound first closer tt closer_kind (λ p r h. (one_of_kind is_closer p r h).1) text
start_sound first starts.Slash text =
    cond_both (begins_any marks.comment_fronts text) _ _ (λ o. IfSome o (IsTagged first text))
    (λ e. comment_found_sound first text (find comment text) (finds_comment.sound text)) (λ e. mark_sound first text)
start_sound first starts.Quote text =
    or_sound first text _ _
    (tagged_sound first marks.LoneQuote quote_kind (λ p r h. (h.0, inr ((refl, h.1), refl))) text _
    (finds_lone_quote.sound text))
    (quoted_sound first text)
start_sound first starts.DoubleQuote text = quoted_sound first text
start_sound first starts.FrontMark text =
    tagged_sound first _ front_mark_kind (λ p r h. h) text _ ((finds_front_mark first).sound text)
start_sound first starts.Mark text = mark_sound first text
start_sound first starts.Other text = tt

pub found_sound : (first : Bool) (text : List ℕ) → IfSome (find_piece first text) (IsTagged first text)
unfolding find_piece
found_sound first [] = tt
found_sound first (c ∷ text) = start_sound first (piece_start c) (c ∷ text)

-- ---- each piece is found

-- at the end of the text nothing is found
pub found_end : (first : Bool) (text : List ℕ) → text ≡ [] → find_piece first text ≡ None
unfolding find_piece
found_end first text e = ap (find_piece first) e

-- a text is searched by what its first character says
pub from_start : (first : Bool) (text : List ℕ) (c : ℕ) (rest : List ℕ) (s : PieceStart) → text ≡ c ∷ rest
    → piece_start c ≡ s
    → find_piece first text ≡ found_from first s text
unfolding find_piece
from_start first text c rest s e is = ap (find_piece first) e
    ∙ (ap (λ t. found_from first t (c ∷ rest)) is ∙ ap (found_from first s) (sym e))

pub letter_start : (first : Bool) (text : List ℕ) → first_passes is_ident_start text ≡ true
    → find_piece first text ≡ found_from first starts.Letter text
letter_start first [] begins = absurd (both_ways _ refl begins)
letter_start first (c ∷ text) begins = from_start first (c ∷ text) c text starts.Letter refl (start_letter c begins)

-- each comment is found with its kind
found_comment : (first : Bool) (k : Kind) (p r : List ℕ) → Comment p r → comment_kind p r ≡ Some k
    → find_piece first (p ++ r) ≡ Some (k, p, r)
found_comment first k p r h kind =
    let begins = comment_first p r h in
    from_start first (p ++ r) 47 (begins.0 ++ r) starts.Slash (ap (λ x. x ++ r) begins.1) start_slash
    ∙ (cond-true _ _ _ (begins.2 r) ∙ (ap comment_found (finds_comment.complete p r h) ∙ ap (with_kind (p, r)) kind))

-- a mark is found, if no comment begins there
found_mark : (first : Bool) (text : List ℕ) (c : ℕ) (rest : List ℕ) → text ≡ c ∷ rest → marks.is_mark c ≡ true
    → (c == 39) ≡ false → begins_any marks.comment_fronts text ≡ false
    → find_piece first text ≡ and_kind mark_kind (find marks.mark text)
found_mark first text c rest e is other plain = elim (start_mark c is other) [
  | inl mark ↦ from_start first text c rest starts.Mark e mark
  | inr slash ↦ from_start first text c rest starts.Slash e slash ∙ cond-false _ _ _ plain
]

-- a text that begins with a piece of one character begins with that character
one_front : (c : ℕ) (p r : List ℕ) → p ≡ c ∷ [] → p ++ r ≡ c ∷ r
one_front c p r e = ap (λ q. q ++ r) e

-- a character that passes and equals c is c
pub passes_of : (passes : ℕ → Bool) (c : ℕ) (p r : List ℕ) → One (λ d. passes d && (d == c)) p r
    → (p ≡ c ∷ []) × (passes c ≡ true)
passes_of passes c p r (d, e, h) =
    let parts = and_parts _ _ h in
    let same = eqb-true d c parts.1 in
    (e ∙ ap (λ x. x ∷ []) same, ap passes (sym same) ∙ parts.0)

-- the character of a mark is one of the marks, and not `'`
pub mark_is : (c : ℕ) (r : List ℕ) → marks.Mark (c ∷ []) r → (marks.is_mark c ≡ true) × ((c == 39) ≡ false)
mark_is c r h =
    let same : c ≡ h.0.0 = cc in
    let parts = and_parts _ _ h.0.2 in
    (ap marks.is_mark same ∙ parts.0, ap (λ d. d == 39) same ∙ not-true _ parts.1)

-- no identifier is found, if a literal with letters before its quote begins there
no_identifier : (text : List ℕ) → begins_any identifiers.literal_prefixes text ≡ true → found_identifier text ≡ None
unfolding find
no_identifier text h = ap (and_kind (name_kind (begins_with (codes "r#") text))) (cond-true _ _ _ h)

-- each identifier is found
identifier_found : (raw : Bool) (name r : List ℕ) → identifiers.Identifier raw name r
    → found_identifier (raw_front raw ++ (name ++ r)) ≡ Some (Leaf (Name raw name), raw_front raw ++ name, r)
identifier_found true name r h =
    ap (and_kind (name_kind true))
    ((exact (identifier true) (clear_written true)).complete (codes "r#" ++ name) r
    (named_written true name r h.0, h.1))
identifier_found false name r h =
    ap (λ b. and_kind (name_kind b) (find (identifier b) (name ++ r))) (named_begins false name r h.0)
    ∙ ap (and_kind (name_kind false)) ((exact (identifier false) (clear_written false)).complete name r h)

-- each literal is found
found_quoted_at : (p r : List ℕ) → literals.QuotedLiteral p r
    → found_literal quoted_literal (p ++ r) ≡ Some (Leaf (Literal p), p, r)
found_quoted_at p r h = ap (and_kind literal_kind) (finds_quoted.complete p r h)

quoted_complete : (first : Bool) (p r : List ℕ) → literals.QuotedLiteral p r
    → find_piece first (p ++ r) ≡ Some (Leaf (Literal p), p, r)
quoted_complete first p r h = elim (quoted_starts p r h) [
  | inl text ↦ from_start first (p ++ r) 34 text.0 starts.DoubleQuote text.1 start_double_quote ∙ found_quoted_at p r h
  | inr more ↦ elim more [
    | inl character ↦
        from_start first (p ++ r) 39 (character.back ++ r) starts.Quote
        (front_whole (codes "'") _ p r character) start_quote
        ∙ (ap (λ o. or_found (and_kind quote_kind o) (found_literal quoted_literal (p ++ r)))
        (none_apart _ _ _ finds_lone_quote quote_apart p r character) ∙ found_quoted_at p r h)
    | inr letter ↦
        from_start first (p ++ r) letter.first letter.rest starts.Letter letter.whole letter.starts
        ∙ (ap (λ o. or_found o (found_literal quoted_literal (p ++ r))) (no_identifier (p ++ r) letter.prefixed)
        ∙ found_quoted_at p r h)
  ]
]

number_complete : (first : Bool) (p r : List ℕ) → Number p r → find_piece first (p ++ r) ≡ Some (Leaf (Literal p), p, r)
number_complete first p r h =
    let at = number_first p r h in
    from_start first (p ++ r) at.0 (at.1 ++ r) starts.Digit (ap (λ q. q ++ r) at.2) (start_digit at.0 at.3)
    ∙ ap (and_kind literal_kind) (finds_number.complete p r h)

literal_complete : (first : Bool) (p r : List ℕ) → literals.Literal p r
    → find_piece first (p ++ r) ≡ Some (Leaf (Literal p), p, r)
unfolding literals.Literal
literal_complete first p r h = elim h [
  | inl quoted ↦ quoted_complete first p r quoted
  | inr number ↦ number_complete first p r number
]

error_complete : (first : Bool) (p r : List ℕ) → literals.ErrorLiteral p r
    → find_piece first (p ++ r) ≡ Some (Leaf (Literal p), p, r)
unfolding find
error_complete first p r h =
    let text = error_literal ++ r in
    rw h (from_start first text 40 (codes "/*ERROR*/)" ++ r) starts.Opener refl (start_opener 40 refl)
    ∙ ap (and_kind literal_kind) ((exact (rules.Exactly error_literal) tt).complete error_literal r refl))

pub found_complete : (first : Bool) (k : Kind) (p r : List ℕ) → IsPiece first k p r
    → find_piece first (p ++ r) ≡ Some (k, p, r)
found_complete first FrontMark p r h =
    from_start first (p ++ r) 0xFEFF r starts.FrontMark (one_front 0xFEFF p r h.1) start_front_mark
    ∙ ap (and_kind front_mark_kind) ((finds_front_mark first).complete p r h)
found_complete first Gap p r (inl h) =
    from_start first (p ++ r) h.0 r starts.White (one_front h.0 p r h.1) (start_white h.0 h.2)
    ∙ ap (and_kind gap_kind) ((exact (rules.One is_white) tt).complete p r h)
found_complete first Gap p r (inr h) = found_comment first Gap p r h.0 (plain_kind p r h)
found_complete first (Doc inner text) p r h =
    found_comment first (Doc inner text) p r h.comment.0 (doc_kind inner text p r h)
found_complete first (Open c) p r h =
    let one = passes_of is_opener c p r h.0 in
    let opens : NotAt (error_literal ∷ []) (One is_opener) p r = ((c, one.0, one.1), h.1) in
    from_start first (p ++ r) c r starts.Opener (one_front c p r one.0) (start_opener c one.1)
    ∙ (ap (λ o. or_found (and_kind opener_kind o) (found_literal (rules.Exactly error_literal) (p ++ r)))
    ((exact opener tt).complete p r opens)
    ∙ ap (λ d. Some (Open d, p, r)) (ap first_of one.0))
found_complete first (Close c) p r h =
    let one = passes_of is_closer c p r h in
    from_start first (p ++ r) c r starts.Closer (one_front c p r one.0) (start_closer c one.1)
    ∙ (ap (and_kind closer_kind) ((exact closer tt).complete p r (c, one.0, one.1))
    ∙ ap (λ d. Some (Close d, p, r)) (ap first_of one.0))
found_complete first (Leaf (Name raw name)) p r h =
    let text = raw_front raw ++ (name ++ r) in
    rw (h.0, append_assoc) (letter_start first text (named_start raw name r h.1.0)
    ∙ ap (λ o. or_found o (found_literal quoted_literal text)) (identifier_found raw name r h.1))
found_complete first (Leaf (Mark c joint)) p r h = rw h.0 (elim h.1 [
  | inl mark ↦
      let is = mark_is c r mark.0 in
      found_mark first (c ∷ r) c r refl is.0 is.1 mark.0.1
      ∙ (ap (and_kind mark_kind) ((exact marks.mark tt).complete (c ∷ []) r mark.0)
      ∙ ap (λ b. Some (Leaf (Mark c b), c ∷ [], r)) (sym mark.1))
  | inr quote ↦
      let is : c ≡ 39 = cc in
      rw (is, quote.1) (from_start first (39 ∷ r) 39 r starts.Quote refl start_quote
      ∙ ap (λ o. or_found (and_kind quote_kind o) (found_literal quoted_literal (39 ∷ r)))
      (finds_lone_quote.complete (39 ∷ []) r (refl, quote.0.1)))
])
found_complete first (Leaf (Literal text)) p r h = rw h.0 (elim h.1 [
  | inl literal ↦ literal_complete first text r literal
  | inr error ↦ error_complete first text r error
])

-- ---- the laws

-- at most one piece begins at a byte offset
pub one_piece : (first : Bool) (k l : Kind) (p q r s : List ℕ) → IsPiece first k p r → IsPiece first l q s
    → p ++ r ≡ q ++ s → (k ≡ l) × (p ≡ q) × (r ≡ s)
one_piece first k l p q r s h j e =
    let same : ◌≡◌ {A = Found} (Some (k, p, r)) (Some (l, q, s)) =
    sym (found_complete first k p r h) ∙ (ap (find_piece first) e ∙ found_complete first l q s j) in
    let parts : ◌≡◌ {A = Kind × List ℕ × List ℕ} (k, p, r) (l, q, s) = cc in
    (ap (λ x. x.0) parts, ap (λ x. x.1) parts, ap (λ x. x.2) parts)

-- what was found is a piece at the start of the text
pub piece_from_found : (first : Bool) (text p r : List ℕ) (k : Kind) → find_piece first text ≡ Some (k, p, r)
    → (text ≡ p ++ r) × IsPiece first k p r
piece_from_found first text p r k e = subst (λ o. IfSome o (IsTagged first text)) e (found_sound first text)

-- if nothing was found, no piece is there
pub none_from_found : (first : Bool) (text : List ℕ) → find_piece first text ≡ None → HasNoPiece first text
none_from_found first text e k p r whole h =
    let clash : ◌≡◌ {A = Found} None (Some (k, p, r)) = sym e
    ∙ (ap (find_piece first) whole ∙ found_complete first k p r h) in
    cc

-- The steps of the lexer return what the finders find.
use Rattle.std.proofs.Common.{◌≡◌, ℕ, ◌+◌, Bool, true, false, not, ◌&&◌, ◌==◌, cond, codes, List, [], ◌∷◌, ◌++◌, length}
use Rattle.std.proofs.Common.{drop, Option, Some, None, refl, sym, ap, ◌∙◌, subst, arith, append_assoc, eqb-true}
use Rattle.std.specs.Borrow.{Bor}
use Rattle.std.specs.Str.{chars, IsUtf8, encode_utf8_all}
use Rattle.std.proofs.lemmas.Bool.{and_from, cond-false, not_from_false}
use Rattle.std.proofs.lemmas.List.{append_cancel_left}
use Rattle.lexical.specs.Text.{begins_with, begins_any}
use Rattle.lexical.specs.Token.{Name, raw_front}
use Rattle.lexical.specs.Form.{Form}
use Rattle.lexical.specs.Rule.{Rule, One, Exactly, NotAt, find}
use Rattle.lexical.specs.Identifier.{literal_prefixes, raw_name, any_identifier, identifier}
use Rattle.lexical.specs.Mark.{is_mark, comment_fronts, mark, joint_before, follows_quote}
use Rattle.lexical.specs.Piece.{Kind, Leaf, IsPiece}
use Rattle.lexical.specs.Found.{kind_of, LendsText, IsPieceAt, IsAt}
use Rattle.lexical.specs.Finder.{Answer, Finds}
use Rattle.lexical.specs.PieceFinder.{Found, find_lone_quote, literal_kind, mark_kind, name_kind, and_kind, or_found}
use Rattle.lexical.specs.PieceFinder.{piece_start, found_identifier, found_literal, found_from, find_piece}
use Rattle.lexical.specs.PieceStep.{IsFound, Answers}
use Rattle.lexical.specs.RuleMatch.{Passes}
use Rattle.lexical.specs.declared.cursor.TextCursor.{TextCursor}
use Rattle.lexical.specs.declared.piece.PieceKind.{PieceKind}
use Rattle.lexical.specs.declared.piece.PieceKind.TheVariants as kinds
use Rattle.lexical.specs.declared.class.PieceStart.{PieceStart}
use Rattle.lexical.specs.declared.class.PieceStart.TheVariants as starts
use Rattle.lexical.proofs.FinderLemmas.{found_is}
use Rattle.lexical.proofs.RuleSteps.{passes_piece, one_found, past_text, then_reads, IsBetween}
use Rattle.lexical.proofs.NameFinderLemmas.{clear_written, written_named}
use Rattle.lexical.proofs.ClassLemmas.{is_of, of_start}
use Rattle.lexical.proofs.PieceLemmas.{from_start, piece_from_found}

-- ---- what is found

-- a character that passes is found, if none of the prefixes begins there
pub one_found_not_at : (fronts : List (List ℕ)) (passes : ℕ → Bool) (text rest : List ℕ) (c : ℕ) → text ≡ c ∷ rest
    → begins_any fronts text ≡ false → passes c ≡ true
    → find (NotAt fronts (One passes)) text ≡ Some (c ∷ [], rest)
unfolding find
one_found_not_at fronts passes text rest c e plain h = cond-false _ _ _ plain ∙ one_found passes c text rest e h

-- the first character is found, by what it says about the piece
pub first_found : (s : PieceStart) {text rest : List ℕ} {c : ℕ} → text ≡ c ∷ rest → s ≡ piece_start c
    → find (One (is_of s)) text ≡ Some (c ∷ [], rest)
first_found s {text} {rest} {c} e h = one_found (is_of s) c text rest e (of_start s c h)

-- a lone quote is found exactly if `follows_quote` holds after it
pub quote_found : {text rest : List ℕ} {c : ℕ} → text ≡ c ∷ rest → starts.Quote ≡ piece_start c
    → find_lone_quote text ≡ cond (follows_quote rest) (Some (39 ∷ [], rest)) None
unfolding find
quote_found {rest = rest} {c = c} e h =
    ap find_lone_quote (e ∙ ap (λ d. d ∷ rest) (eqb-true c 39 (of_start starts.Quote c h)))

-- ---- what a step returns

-- the kind and the cursor after the piece are what was found
pub read_as : (kind : List ℕ → List ℕ → Kind) (o : Answer) (answer : Found) (at end : TextCursor) (k : PieceKind)
    (front : List ℕ)
    → answer ≡ and_kind kind o → o ≡ Some (front, chars end.rest.now)
    → end.chars_before ≡ at.chars_before + length front
    → kind_of k front ≡ kind front (chars end.rest.now) → LendsText k → IsFound answer at (k, end)
read_as kind o answer at end k front tags found count same lends =
    record { front = front; found = rw (tags, found, same); count = count; lends = lends }

-- the kind and the cursor after one character are what was found
pub read_one : (kind : List ℕ → List ℕ → Kind) (o : Answer) (answer : Found) (at after : TextCursor) (k : PieceKind)
    (c : ℕ)
    → answer ≡ and_kind kind o → o ≡ Some (c ∷ [], chars after.rest.now) → after.chars_before ≡ at.chars_before + 1
    → kind_of k (c ∷ []) ≡ kind (c ∷ []) (chars after.rest.now) → LendsText k → IsFound answer at (k, after)
read_one kind o answer at after k c = read_as kind o answer at after k (c ∷ [])

-- if the first of two was found, it is what was found
pub read_first : (answer o u : Found) (at : TextCursor) (x : PieceKind × TextCursor) → answer ≡ or_found o u
    → IsFound o at x
    → IsFound answer at x
read_first answer o u at x e h =
    record { front = h.front; found = e ∙ ap (λ o. or_found o u) h.found; count = h.count; lends = h.lends }

-- if the first of two was not found, the second is what was found
pub second : {o answer u : Found} → o ≡ None → answer ≡ or_found o u → answer ≡ u
second {u = u} none e = e ∙ ap (λ o. or_found o u) none

pub same_answers : {answer other : Found} (at : TextCursor) (result : Option (PieceKind × TextCursor)) → answer ≡ other
    → Answers other at result → Answers answer at result
same_answers at result e h = subst (λ o. Answers o at result) (sym e) h

-- a text is read by what its first character says
pub at_start : (first : Bool) (s : PieceStart) {text rest : List ℕ} {c : ℕ} → text ≡ c ∷ rest → s ≡ piece_start c
    → find_piece first text ≡ found_from first s text
at_start first s {text} {rest} {c} e is = from_start first text c rest s e (sym is)

-- a literal that was read is what was found
pub literal_read : (rule : Rule) (at end : TextCursor) → Passes rule at end
    → IsFound (found_literal rule (chars at.rest.now)) at (kinds.Literal, end)
literal_read rule at end h = read_as literal_kind (find rule (chars at.rest.now)) _ at end kinds.Literal h.front refl
    h.found h.count refl tt

-- an identifier that was read is what was found. Its name follows `r#` or nothing
pub name_read : (raw : Bool) (at inside end : TextCursor) (name : Bor (List ℕ))
    → chars at.rest.now ≡ raw_front raw ++ chars inside.rest.now
    → begins_with (codes "r#") (chars at.rest.now) ≡ raw → begins_any literal_prefixes (chars at.rest.now) ≡ false
    → Passes (any_identifier raw) at end → IsBetween (chars name.now) inside end → IsUtf8 name.now
    → IsFound (found_identifier (chars at.rest.now)) at (kinds.Name raw name, end)
unfolding find
name_read raw at inside end name split begins plain h between utf8 =
    let is = passes_piece (any_identifier raw) (clear_written raw) at end h in
    let named = written_named raw h.front (chars end.rest.now) is.1 in
    let whole = is.0 ∙ (ap (λ p. p ++ chars end.rest.now) named.1
    ∙ append_assoc (raw_front raw) named.0 (chars end.rest.now)) in
    let same = between named.0 (append_cancel_left (raw_front raw) _ _ (sym split ∙ whole)) in
    read_as (name_kind raw) (find (identifier raw) (chars at.rest.now)) _ at end (kinds.Name raw name) h.front
    (ap (λ b. and_kind (name_kind b) (find (identifier b) (chars at.rest.now))) begins)
    (cond-false _ _ _ plain ∙ h.found) h.count
    (by_raw raw h.front (chars name.now) (named.1 ∙ ap (λ q. raw_front raw ++ q) (sym same))) utf8
  where
    by_raw : (raw : Bool) (p q : List ℕ) → p ≡ raw_front raw ++ q → Leaf (Name raw q) ≡ name_kind raw p []
    by_raw true p q e = ap (λ x. Leaf (Name true (drop 2 x))) (sym e)
    by_raw false p q e = ap (λ x. Leaf (Name false x)) (sym e)

-- no identifier is found, if no allowed name follows `r#`
pub name_lacks : (at inside : TextCursor) → begins_any literal_prefixes (chars at.rest.now) ≡ false
    → Passes (Exactly (codes "r#")) at inside
    → find raw_name (chars inside.rest.now) ≡ None → found_identifier (chars at.rest.now) ≡ None
unfolding find
name_lacks at inside plain h none =
    let begins = ap (begins_with (codes "r#")) (past_text (codes "r#") at inside h).0 in
    rw (begins, plain, then_reads (Exactly (codes "r#")) raw_name at inside None h none)

-- a mark that was read is what was found
pub mark_read : (answer : Found) (at after : TextCursor) (c : ℕ) (k : PieceKind)
    → answer ≡ and_kind mark_kind (find mark (chars at.rest.now))
    → chars at.rest.now ≡ c ∷ chars after.rest.now → after.chars_before ≡ at.chars_before + 1
    → begins_any comment_fronts (chars at.rest.now) ≡ false → is_mark c ≡ true → (c == 39) ≡ false
    → k ≡ kinds.Mark (joint_before (chars after.rest.now)) c → IsFound answer at (k, after)
mark_read answer at after c k tags split one plain among other is =
    read_one mark_kind (find mark (chars at.rest.now)) answer at after k c tags
    (one_found_not_at comment_fronts (λ d. is_mark d && not (d == 39)) _ _ _ split plain
    (and_from _ _ among (not_from_false _ other)))
    one (ap (λ k. kind_of k (c ∷ [])) is) (subst LendsText (sym is) tt)

-- ---- what a caller of the lexer learns

pub is_in : (rule : Rule) (A : Form) → Finds (find rule) A → (at end : TextCursor) (text : List ℕ) → at.rest.now ≡ text
    → Passes rule at end
    → (front : List ℕ) × (chars text ≡ front ++ chars end.rest.now)
is_in rule A finds at end text e h = (h.front, ap chars (sym e) ∙ (found_is _ A finds _ h.front _ h.found).0)

pub is_at : (rule : Rule) (A : Form) → Finds (find rule) A → (at end : TextCursor) (text : List ℕ) (bytes : ℕ)
    → at.rest.now ≡ text → Passes rule at end
    → ((front : List ℕ) → chars text ≡ front ++ chars end.rest.now → bytes ≡ length (encode_utf8_all front))
    → IsAt A (chars text) bytes
is_at rule A finds at end text bytes e h size =
    let is = found_is _ A finds _ h.front _ h.found in
    let whole = ap chars (sym e) ∙ is.0 in
    record { front = h.front; rest = chars end.rest.now; whole = whole; stands = is.1; size = size h.front whole }

-- what was read is a piece at the cursor
pub read_stands : (first : Bool) (at : TextCursor) (x : PieceKind × TextCursor) (text : List ℕ)
    → chars at.rest.now ≡ text
    → (h : IsFound (find_piece first (chars at.rest.now)) at x)
    → (text ≡ h.front ++ chars x.1.rest.now) × IsPiece first (kind_of x.0 h.front) h.front (chars x.1.rest.now)
read_stands first at x text e h =
    let is = piece_from_found first (chars at.rest.now) h.front (chars x.1.rest.now) (kind_of x.0 h.front) h.found in
    (sym e ∙ is.0, is.1)

pub piece_is_at : (first : Bool) (at : TextCursor) (kind : PieceKind) (end : TextCursor) (text : List ℕ) (bytes : ℕ)
    → chars at.rest.now ≡ text → at.chars_before ≡ 0
    → (h : IsFound (find_piece first (chars at.rest.now)) at (kind, end))
    → bytes ≡ length (encode_utf8_all h.front)
    → IsPieceAt first text (record { kind = kind; bytes = bytes; chars = end.chars_before })
piece_is_at first at kind end text bytes e front h size =
    let is = read_stands first at (kind, end) text e h in
    record {
      front = h.front;
      rest = chars end.rest.now;
      whole = is.0;
      stands = is.1;
      bytes = size;
      chars = omega (arith, h.count, front);
      lends = h.lends;
    }

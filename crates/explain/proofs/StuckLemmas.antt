-- What the first character says where no piece begins.
use Rattle.std.proofs.Common.{◌≡◌, ℕ, ◌+◌, Bool, true, false, not, ◌&&◌, ◌==◌, cond, List, [], ◌∷◌, ◌++◌, codes}
use Rattle.std.proofs.Common.{Some}
use Rattle.std.proofs.Common.{None, IfSome, inl, inr, refl, sym, ap, ◌∙◌, subst, arith, eqb-true}
use Rattle.std.specs.Char.{is_ascii_digit}
use Rattle.std.specs.Str.{chars}
use Rattle.std.proofs.lemmas.Bool.{and_from, both_ways, cases_Bool, cond-false, false_from_ne_true, not_from_false}
use Rattle.std.proofs.lemmas.Bool.{or_from}
use Rattle.lexical.specs.Comment.{block_comment, comment, line_comment}
use Rattle.lexical.specs.Class.{is_white, is_ident_start}
use Rattle.lexical.specs.Delimiter.{closer, error_literal, is_opener, is_closer, opener}
use Rattle.lexical.specs.Identifier.{identifier, literal_prefixes, name}
use Rattle.lexical.specs.Finder.{Answer}
use Rattle.lexical.specs.Literal.{quoted_literal}
use Rattle.lexical.specs.Mark.{comment_fronts, is_mark, mark}
use Rattle.lexical.specs.Number.{number}
use Rattle.lexical.specs.Piece.{HasNoPiece, IsPiece, Kind}
use Rattle.lexical.specs.PieceFinder.{Found, comment_found, find_lone_quote, find_piece, found_identifier, literal_kind}
use Rattle.lexical.specs.PieceFinder.{closer_kind, gap_kind, mark_kind, name_kind, opener_kind, or_found}
use Rattle.lexical.specs.PieceFinder.{piece_start, quote_kind}
use Rattle.lexical.specs.PieceFinder.{and_kind}
use Rattle.lexical.specs.Quoted.{cooked_string}
use Rattle.lexical.specs.RawString.{raw_string}
use Rattle.lexical.specs.SingleQuoted.{byte, character}
use Rattle.lexical.specs.Rule.{One, Exactly, find}
use Rattle.lexical.specs.RuleMatch.{Passes}
use Rattle.lexical.specs.Text.{begins_any, begins_with, first_passes}
use Rattle.lexical.specs.declared.class.PieceStart.{PieceStart}
use Rattle.lexical.specs.declared.class.PieceStart.TheVariants as starts
use Rattle.lexical.specs.declared.cursor.TextCursor.{TextCursor}
use Rattle.lexical.proofs.AnswerLemmas.{at_start, one_found_not_at}
use Rattle.lexical.proofs.ClassLemmas.{of_start, start_white, start_letter, start_digit, start_opener, start_closer}
use Rattle.lexical.proofs.ClassLemmas.{start_mark, start_quote, start_double_quote, start_front_mark}
use Rattle.lexical.proofs.ClassLemmas.{start_slash}
use Rattle.lexical.proofs.PieceLemmas.{found_sound}
use Rattle.lexical.proofs.QuotedFinderLemmas.{each_kind}
use Rattle.lexical.specs.declared.quoted.StringKind.{StringKind}
use Rattle.lexical.proofs.RuleSteps.{find_either, lacks_text, one_found, one_passes, text_passes}
use Rattle.explain.specs.Shapes.{begins_nothing}
use Rattle.explain.specs.Trouble.{IsTrouble}
use Rattle.explain.specs.declared.reason.Reason.TheVariants.{MisplacedMark, NoToken, UnclosedComment}
use Rattle.explain.proofs.NumberLemmas.{one_none, or_none}
use Rattle.explain.proofs.QuoteLemmas.{name_none}
use Rattle.explain.proofs.ScanLemmas.{none_stands}
use Rattle.explain.proofs.TroubleLemmas.{trouble_here}

-- where no piece begins, none is found
pub none_found : (first : Bool) (text : List ℕ) → HasNoPiece first text → find_piece first text ≡ None
none_found first text none =
    (elim (find_piece first text) as (λ o. IfSome o (λ x. (text ≡ x.1 ++ x.2) × IsPiece first x.0 x.1 x.2) → o ≡ None) [
      | None ↦ λ h. refl
      | Some x ↦ λ h. absurd (none x.0 x.1 x.2 h.0 h.1)
    ]) (found_sound first text)

pub digit_first : (c : ℕ) (text rest : List ℕ) → text ≡ c ∷ rest → starts.Digit ≡ piece_start c
    → first_passes is_ascii_digit text ≡ true
digit_first c text rest e s = ap (first_passes is_ascii_digit) e ∙ of_start starts.Digit c s

no_kind_none : (o : Answer) → and_kind literal_kind o ≡ None → o ≡ None
no_kind_none None e = refl
no_kind_none (Some x) e = absurd (cc)

pub no_number : (first : Bool) (c : ℕ) (text rest : List ℕ) → text ≡ c ∷ rest → starts.Digit ≡ piece_start c
    → find_piece first text ≡ None → find number text ≡ None
no_number first c text rest e s none = no_kind_none (find number text) (sym (at_start first starts.Digit e s) ∙ none)

-- ---- pieces that are not found

or_found_none : (o u : Found) → or_found o u ≡ None → (o ≡ None) × (u ≡ None)
or_found_none None u e = (refl, e)
or_found_none (Some x) u e = absurd (cc)

pub untagged_by : (kind : List ℕ → List ℕ → Kind) (o : Answer) → and_kind kind o ≡ None → o ≡ None
untagged_by kind None e = refl
untagged_by kind (Some x) e = absurd (cc)

pub letter_none : (first : Bool) (c : ℕ) (text rest : List ℕ) → text ≡ c ∷ rest → starts.Letter ≡ piece_start c
    → find_piece first text ≡ None → (found_identifier text ≡ None) × (find quoted_literal text ≡ None)
letter_none first c text rest e s none =
    let both = or_found_none _ _ (sym (at_start first starts.Letter e s) ∙ none) in
    (both.0, no_kind_none (find quoted_literal text) both.1)

pub quote_none : (first : Bool) (c : ℕ) (text rest : List ℕ) → text ≡ c ∷ rest → starts.Quote ≡ piece_start c
    → find_piece first text ≡ None → (find_lone_quote text ≡ None) × (find quoted_literal text ≡ None)
quote_none first c text rest e s none =
    let both = or_found_none _ _ (sym (at_start first starts.Quote e s) ∙ none) in
    (untagged_by quote_kind (find_lone_quote text) both.0, no_kind_none (find quoted_literal text) both.1)

pub string_none : (first : Bool) (c : ℕ) (text rest : List ℕ) → text ≡ c ∷ rest → starts.DoubleQuote ≡ piece_start c
    → find_piece first text ≡ None → find quoted_literal text ≡ None
string_none first c text rest e s none =
    no_kind_none (find quoted_literal text) (sym (at_start first starts.DoubleQuote e s) ∙ none)

pub comment_none : (first : Bool) (c : ℕ) (text rest : List ℕ) → text ≡ c ∷ rest → starts.Slash ≡ piece_start c
    → find_piece first text ≡ None
    → (begins_any comment_fronts text ≡ true) × (comment_found (find comment text) ≡ None)
comment_none first c text rest e s none = by_front (begins_any comment_fronts text) refl
    (sym (at_start first starts.Slash e s) ∙ none)
  where
    by_front : (b : Bool) → begins_any comment_fronts text ≡ b
        → cond b (comment_found (find comment text)) (and_kind mark_kind (find mark text)) ≡ None
        → (b ≡ true) × (comment_found (find comment text) ≡ None)
    by_front true begins h = (refl, h)
    by_front false plain h =
        let slash : c ≡ 47 = eqb-true c 47 (of_start starts.Slash c s) in
        let some = one_found_not_at comment_fronts (λ d. is_mark d && not (d == 39)) text rest c e plain
        (ap (λ d. is_mark d && not (d == 39)) slash) in
        let clash : ◌≡◌ {A = Answer} (Some (c ∷ [], rest)) None =
        sym some ∙ untagged_by mark_kind (find mark text) h in
        absurd (cc)

-- no literal with quotes is found
pub record HasNoLiteral (text : List ℕ) : Type 0 where
  pub strings : (kind : StringKind) → find (cooked_string kind) text ≡ None
  pub raw_strings : (kind : StringKind) → find (raw_string kind) text ≡ None
  pub characters : find character text ≡ None
  pub bytes : find byte text ≡ None

pub no_literal : (text : List ℕ) → find quoted_literal text ≡ None → HasNoLiteral text
no_literal text none =
    let plain = or_none _ _ (sym (find_either _ _ text) ∙ none) in
    let plain_parts = or_none _ _ (sym (find_either _ _ text) ∙ plain.0) in
    let one = or_none _ _ (sym (find_either _ _ text) ∙ plain.1) in
    let bytes = or_none _ _ (sym (find_either _ _ text) ∙ one.1) in
    let byte_parts = or_none _ _ (sym (find_either _ _ text) ∙ bytes.0) in
    let last = or_none _ _ (sym (find_either _ _ text) ∙ bytes.1) in
    let c_parts = or_none _ _ (sym (find_either _ _ text) ∙ last.1) in
    record {
      strings = each_kind (λ k. find (cooked_string k) text ≡ None) plain_parts.0 byte_parts.0 c_parts.0;
      raw_strings = each_kind (λ k. find (raw_string k) text ≡ None) plain_parts.1 byte_parts.1 c_parts.1;
      characters = one.0;
      bytes = last.0;
    }

-- the cursor is past this one character
pub past_one : (d c : ℕ) (at after : TextCursor) → chars at.rest.now ≡ c ∷ chars after.rest.now
    → after.chars_before ≡ at.chars_before + 1 → (c == d) ≡ true → Passes (Exactly (d ∷ [])) at after
past_one d c at after split count is =
    text_passes (d ∷ []) at after (split ∙ ap (λ x. x ∷ chars after.rest.now) (eqb-true c d is)) count

pub mark_is_misplaced : (c : ℕ) (at after : TextCursor) → chars at.rest.now ≡ c ∷ chars after.rest.now
    → after.chars_before ≡ at.chars_before + 1 → starts.FrontMark ≡ piece_start c
    → IsTrouble at (record { reason = MisplacedMark; at = at; after = after })
mark_is_misplaced c at after split count s =
    trouble_here (Exactly (0xFEFF ∷ [])) tt at after MisplacedMark
    (past_one 0xFEFF c at after split count (of_start starts.FrontMark c s)) (λ front part whole is. is)

-- a character that begins no piece is in none of the classes
none_of : (s : PieceStart) (c : ℕ) (b : Bool) → starts.Other ≡ piece_start c → (b ≡ true → piece_start c ≡ s)
    → (starts.Other ≡ s → ⊥)
    → b ≡ false
none_of s c b other from differs = false_from_ne_true b (λ is. differs (other ∙ from is))

no_mark : (c : ℕ) → starts.Other ≡ piece_start c → is_mark c ≡ false
no_mark c other = false_from_ne_true _ (λ is. elim (cases_Bool (c == 39)) [
  | inl quote ↦
      let clash : starts.Other ≡ starts.Quote = other ∙ (ap piece_start (eqb-true c 39 quote) ∙ start_quote) in
      cc
  | inr plain ↦ elim (start_mark c is plain) [
    | inl mark ↦ let clash : starts.Other ≡ starts.Mark = other ∙ mark in cc
    | inr slash ↦ let clash : starts.Other ≡ starts.Slash = other ∙ slash in cc
  ]
])

nothing_begins : (c : ℕ) → starts.Other ≡ piece_start c → begins_nothing c ≡ true
nothing_begins c other =
    let white = none_of starts.White c (is_white c) other (start_white c) (λ e. cc) in
    let letter = none_of starts.Letter c (is_ident_start c) other (start_letter c) (λ e. cc) in
    let digit = none_of starts.Digit c (is_ascii_digit c) other (start_digit c) (λ e. cc) in
    let opener = none_of starts.Opener c (is_opener c) other (start_opener c) (λ e. cc) in
    let closer = none_of starts.Closer c (is_closer c) other (start_closer c) (λ e. cc) in
    let quote = none_of starts.DoubleQuote c (c == 34) other (λ is. ap piece_start
    (eqb-true c 34 is) ∙ start_double_quote)
    (λ e. cc) in
    let mark = none_of starts.FrontMark c (c == 0xFEFF) other (λ is. ap piece_start
    (eqb-true c 0xFEFF is) ∙ start_front_mark)
    (λ e. cc) in
    ap not (or_from _ _ (or_from _ _ (or_from _ _ (or_from _ _ (or_from _ _ (or_from _ _
    (or_from _ _ white letter) digit)
    opener) closer) (no_mark c other)) quote) mark)

pub no_token : (c : ℕ) (at after : TextCursor) → chars at.rest.now ≡ c ∷ chars after.rest.now
    → after.chars_before ≡ at.chars_before + 1 → starts.Other ≡ piece_start c
    → IsTrouble at (record { reason = NoToken; at = at; after = after })
no_token c at after split count s =
    trouble_here (One begins_nothing) tt at after NoToken
    (one_passes begins_nothing c at after split count (nothing_begins c s)) (λ front part whole is. is)

pub unclosed_comment : (at after : TextCursor) → Passes (Exactly (codes "/*")) at after
    → find comment (chars at.rest.now) ≡ None
    → IsTrouble at (record { reason = UnclosedComment; at = at; after = after })
unclosed_comment at after h none =
    trouble_here (Exactly (codes "/*")) tt at after UnclosedComment h
    (λ front part whole is. (
      is,
      none_stands block_comment (assumption) _ front part _
          (or_none _ _ (sym (find_either line_comment block_comment (chars at.rest.now)) ∙ none)).1 whole,
    ))

-- ---- where a piece always begins

some_of : (A B : Type 0) (x : List ℕ × List ℕ) (o : Answer) → o ≡ Some x → o ≡ None → ⊥
some_of A B x o some none = let clash : ◌≡◌ {A = Answer} (Some x) None = sym some ∙ none in absurd (cc)

pub white_stands : (first : Bool) (c : ℕ) (text rest : List ℕ) → text ≡ c ∷ rest → starts.White ≡ piece_start c
    → find_piece first text ≡ None → ⊥
white_stands first c text rest e s none =
    some_of ⊥ ⊥ _ _ (one_found is_white c text rest e (of_start starts.White c s))
    (untagged_by gap_kind (find (One is_white) text) (sym (at_start first starts.White e s) ∙ none))

pub closer_stands : (first : Bool) (c : ℕ) (text rest : List ℕ) → text ≡ c ∷ rest → starts.Closer ≡ piece_start c
    → find_piece first text ≡ None → ⊥
closer_stands first c text rest e s none =
    some_of ⊥ ⊥ _ _ (one_found is_closer c text rest e (of_start starts.Closer c s))
    (untagged_by closer_kind (find closer text) (sym (at_start first starts.Closer e s) ∙ none))

pub opener_stands : (first : Bool) (c : ℕ) (text rest : List ℕ) → text ≡ c ∷ rest → starts.Opener ≡ piece_start c
    → find_piece first text ≡ None → ⊥
opener_stands first c text rest e s none =
    let both = or_found_none _ _ (sym (at_start first starts.Opener e s) ∙ none) in
    let plain = lacks_text error_literal text (no_kind_none (find (Exactly error_literal) text) both.1) in
    some_of ⊥ ⊥ _ _
    (one_found_not_at (error_literal ∷ []) is_opener text rest c e (or_from _ _ plain refl) (of_start starts.Opener c
    s))
    (untagged_by opener_kind (find opener text) both.0)

other_of : (s t : PieceStart) (c d : ℕ) → s ≡ piece_start c → piece_start d ≡ t → (s ≡ t → ⊥) → (c == d) ≡ false
other_of s t c d h e differs = false_from_ne_true _ (λ same. differs (h ∙ (ap piece_start (eqb-true c d same) ∙ e)))

mark_of : (c : ℕ) → starts.Mark ≡ piece_start c → (is_mark c ≡ true) × ((c == 47) ≡ false) × ((c == 39) ≡ false)
mark_of c s = (
  of_start starts.Mark c s,
  other_of starts.Mark starts.Slash c 47 s start_slash (λ e. cc),
  other_of starts.Mark starts.Quote c 39 s start_quote (λ e. cc),
)

pub letter_first : (c : ℕ) (text rest : List ℕ) → text ≡ c ∷ rest → starts.Letter ≡ piece_start c
    → first_passes is_ident_start text ≡ true
letter_first c text rest e s = ap (first_passes is_ident_start) e ∙ of_start starts.Letter c s

pub mark_stands : (first : Bool) (c : ℕ) (text rest : List ℕ) → text ≡ c ∷ rest → starts.Mark ≡ piece_start c
    → find_piece first text ≡ None → ⊥
mark_stands first c text rest e s none =
    let is = mark_of c s in
    some_of ⊥ ⊥ _ _
    (one_found_not_at comment_fronts (λ d. is_mark d && not (d == 39)) text rest c e
    (subst (λ t. begins_any comment_fronts t ≡ false) (sym e) (no_comment c rest is.1))
    (and_from _ _ is.0 (not_from_false _ is.2)))
    (untagged_by mark_kind (find mark text) (sym (at_start first starts.Mark e s) ∙ none))
  where
    no_comment : (c : ℕ) (rest : List ℕ) → (c == 47) ≡ false → begins_any comment_fronts (c ∷ rest) ≡ false
    no_comment c rest other = grind (arith, other)

-- where a letter is that begins no prefix of a literal, an identifier begins
pub identifier_stands : (text : List ℕ) → begins_any literal_prefixes text ≡ false
    → begins_with (codes "r#") text ≡ false → first_passes is_ident_start text ≡ true
    → found_identifier text ≡ None → ⊥
unfolding find
identifier_stands [] plain front starts none = both_ways _ refl starts
identifier_stands (c ∷ text) plain front starts none =
    let raw : found_identifier (c ∷ text) ≡ and_kind (name_kind false) (find (identifier false) (c ∷ text)) =
    ap (λ b. and_kind (name_kind b) (find (identifier b) (c ∷ text))) front in
    let lacks = untagged_by (name_kind false) (find (identifier false) (c ∷ text)) (sym raw ∙ none) in
    let inner : find name (c ∷ text) ≡ None =
    sym (cond-false _ _ _ (or_from _ _ front refl)) ∙ (sym (cond-false _ _ _ plain) ∙ lacks) in
    both_ways _ (one_none is_ident_start (c ∷ text) (name_none (c ∷ text) inner)) starts

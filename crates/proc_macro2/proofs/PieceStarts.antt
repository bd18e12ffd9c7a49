-- How pieces begin: which of them make a mark before them Joint, and which may follow `'`.
use Rattle.std.proofs.Common.{◌≡◌, ◌≢◌, ℕ, ◌<◌, nat_lt, Bool, true, false, not, ◌&&◌, ◌||◌, ◌==◌, List, [], ◌∷◌, ◌++◌}
use Rattle.std.proofs.Common.{IsTrue, codes, refl, sym, ap, ◌∙◌, subst, inl, inr, arith, eqb-true, eq-eqb, ltb-true}
use Rattle.std.proofs.Common.{append-nil}
use Rattle.std.specs.List.{list_all, list_any}
use Rattle.std.specs.Char.{is_ascii_alphabetic}
use Rattle.std.proofs.lemmas.Bool.{both_ways, and_left, and_right, and_from, and_parts, and_cases, or_cases, or_parts}
use Rattle.std.proofs.lemmas.Bool.{not-true, or_from, not_from_false, not_from_true, cases_Bool, false_from_ne_true}
use Rattle.std.proofs.lemmas.Bool.{ne_eqb}
use Rattle.lexical.specs.Class.{is_white, is_ident_start, is_ident_continue}
use Rattle.lexical.specs.Text.{begins_with, begins_any, first_passes}
use Rattle.lexical.specs.Token.{Name, Mark, Literal}
use Rattle.lexical.specs.Identifier.{Identifier, literal_prefixes}
use Rattle.lexical.specs.Mark as marks
use Rattle.lexical.specs.Mark.{is_mark, comment_fronts, joint_before, FollowsQuote, quotable_fronts}
use Rattle.lexical.specs.Delimiter.{is_opener, is_closer, error_literal}
use Rattle.lexical.specs.Literal as literals
use Rattle.lexical.specs.Literal.{AnyLiteral}
use Rattle.lexical.specs.Piece.{Kind, FrontMark, Gap, Doc, Open, Close, Leaf, Stands, IsPiece}
use Rattle.lexical.proofs.ClassLemmas.{any_of, ident_start_ascii, ident_continue_ascii}
use Rattle.grammar_laws.proofs.LeafLaws.{comment_first, identifier_before_stop, mark_before_stop, stop_alone}
use Rattle.grammar_laws.proofs.LeafLaws.{quote_next}
use Rattle.grammar_laws.proofs.LeafLaws.{literal_before_stop, literal_first, literal_plain, literal_quoted, stops}
use Rattle.lexical.proofs.PieceFacts.{open_is, close_is, stands_mark, start_continues, name_continues, none_begins}
use Rattle.pm_token.specs.Built.{IsBuiltToken}

-- ---- characters

-- a property of all characters in an ASCII list
in_list : (ds : List ℕ) (g : ℕ → Bool) → list_all (λ d. nat_lt d 128 && not (g d)) ds ≡ true → (c : ℕ)
    → list_any (λ d. d == c) ds ≡ true
    → (c < 128) × (g c ≡ false)
in_list [] g all c any = absurd (both_ways _ refl any)
in_list (d ∷ ds) g all c any =
    let parts = and_parts _ _ all in
    let here = and_parts _ _ parts.0 in
    elim (or_cases _ _ any) [
      | inl same ↦ subst (λ x. (x < 128) × (g x ≡ false)) (eqb-true d c same) (ltb-true d 128 here.0, not-true _ here.1)
      | inr there ↦ in_list ds g parts.1 c there
    ]

abbrev ascii_start : ℕ → Bool
ascii_start c = is_ascii_alphabetic c || (c == 95)

pub mark_no_start : (c : ℕ) → is_mark c ≡ true → is_ident_start c ≡ false
mark_no_start c h = let x = in_list marks.marks ascii_start refl c h in ident_start_ascii c x.0 ∙ x.1

pub mark_no_white : (c : ℕ) → is_mark c ≡ true → is_white c ≡ false
mark_no_white c h = (in_list marks.marks is_white refl c h).1

pub start_no_mark : (c : ℕ) → is_ident_start c ≡ true → is_mark c ≡ false
start_no_mark c s = false_from_ne_true (is_mark c) (λ m. both_ways (is_ident_start c) (mark_no_start c m) s)

pub white_no_mark : (c : ℕ) → is_white c ≡ true → is_mark c ≡ false
white_no_mark c w = false_from_ne_true (is_mark c) (λ m. both_ways (is_white c) (mark_no_white c m) w)

pub opener_no_mark : (c : ℕ) → is_opener c ≡ true → is_mark c ≡ false
opener_no_mark c h = any_of (λ d. is_mark d ≡ false) (codes "([{") c (refl, (refl, (refl, tt))) h

pub closer_no_mark : (c : ℕ) → is_closer c ≡ true → is_mark c ≡ false
closer_no_mark c h = any_of (λ d. is_mark d ≡ false) (codes ")]}") c (refl, (refl, (refl, tt))) h

-- ---- comments

-- the first character of a piece decides whether a property is true of the text
begins_as : (f : ℕ → Bool) (b : Bool) {p q : List ℕ} {c : ℕ} (r : List ℕ) → p ≡ c ∷ q → f c ≡ b
    → first_passes f (p ++ r) ≡ b
begins_as f b r e h = ap (λ x. first_passes f (x ++ r)) e ∙ h

-- no comment begins where `/` doesn't
no_slash : (c : ℕ) (r : List ℕ) → (47 == c) ≡ false → begins_any comment_fronts (c ∷ r) ≡ false
no_slash c r other = or_from _ _ (and_left (47 == c) _ other) (or_from _ _ (and_left (47 == c) _ other) refl)

-- a text that begins with no mark begins with no comment
pub no_mark_plain : (r : List ℕ) → first_passes is_mark r ≡ false → begins_any comment_fronts r ≡ false
no_mark_plain [] h = refl
no_mark_plain (c ∷ r) h =
    no_slash c r (false_from_ne_true (47 == c)
    (λ same. both_ways (is_mark c) h (ap is_mark (sym (eqb-true 47 c same)))))

-- one character begins no comment
pub mark_ends : (c : ℕ) → begins_any comment_fronts (c ∷ []) ≡ false
mark_ends c = or_from _ _ (and_right (47 == c) false refl) (or_from _ _ (and_right (47 == c) false refl) refl)

-- a mark before `'` begins no comment
pub tick_comment : (c : ℕ) (p r : List ℕ) → first_passes (λ x. x == 39) p ≡ true
    → begins_any comment_fronts (c ∷ (p ++ r)) ≡ false
tick_comment c [] r h = absurd (both_ways false refl h)
tick_comment c (d ∷ p) r h = subst (λ x. begins_any comment_fronts (c ∷ x ∷ (p ++ r)) ≡ false) (sym (eqb-true d 39 h))
    (or_from _ _ (and_right (47 == c) false refl) (or_from _ _ (and_right (47 == c) false refl) refl))

-- ---- the pieces

-- the pieces that make a mark before them Joint
abbrev pub joins : Kind → Bool
joins FrontMark = false
joins Gap = false
joins (Doc inner text) = false
joins (Open c) = false
joins (Close c) = false
joins (Leaf (Name raw name)) = false
joins (Leaf (Mark c joint)) = true
joins (Leaf (Literal text)) = first_passes (λ c. c == 39) text

-- the pieces that may follow the mark `'`
abbrev pub quotes : Kind → Bool
quotes FrontMark = false
quotes Gap = false
quotes (Doc inner text) = false
quotes (Open c) = false
quotes (Close c) = false
quotes (Leaf (Name raw name)) = true
quotes (Leaf (Mark c joint)) = false
quotes (Leaf (Literal text)) = begins_any quotable_fronts text

-- the pieces that may begin like a comment
abbrev pub is_gap : Kind → Bool
is_gap FrontMark = false
is_gap Gap = true
is_gap (Doc inner text) = true
is_gap (Open c) = false
is_gap (Close c) = false
is_gap (Leaf token) = false

-- a plain name begins with a character that may begin an identifier
plain_first : (name r : List ℕ) → Stands (Name false name) r
    → (c : ℕ) × (q : List ℕ) × (name ≡ c ∷ q) × (is_ident_start c ≡ true)
plain_first name r h = let n = h.0.0 in (n.first.0, n.back, n.whole ∙ ap (λ x. x ++ n.back) n.first.1, n.first.2)

-- where a mark is, no comment begins
mark_plain : (c : ℕ) (joint : Bool) (r : List ℕ) → Stands (Mark c joint) r → begins_any comment_fronts (c ∷ r) ≡ false
mark_plain c joint r (inl mark) = mark.0.1
mark_plain c joint r (inr quote) = let is : c ≡ 39 = cc in ap (λ x. begins_any comment_fronts (x ∷ r)) is

-- a text that begins with a piece other than a gap begins with no comment
pub no_comment : (b : Bool) (k : Kind) (p r : List ℕ) → is_gap k ≡ false → IsPiece b k p r
    → begins_any comment_fronts (p ++ r) ≡ false
no_comment b FrontMark p r g h = ap (λ x. begins_any comment_fronts (x ++ r)) h.1
no_comment b Gap p r g h = absurd (both_ways true g refl)
no_comment b (Doc inner text) p r g h = absurd (both_ways true g refl)
no_comment b (Open c) p r g h =
    let o = open_is b c p r h in
    no_mark_plain (p ++ r) (begins_as is_mark false r o.0 (opener_no_mark c o.1))
no_comment b (Close c) p r g h =
    let o = close_is b c p r h in
    no_mark_plain (p ++ r) (begins_as is_mark false r o.0 (closer_no_mark c o.1))
no_comment b (Leaf (Name true name)) p r g h = no_mark_plain (p ++ r) (begins_as is_mark false r h.0 refl)
no_comment b (Leaf (Name false name)) p r g h =
    let f = plain_first name r h.1 in
    no_mark_plain (p ++ r) (begins_as is_mark false r (h.0 ∙ f.2) (start_no_mark f.0 f.3))
no_comment b (Leaf (Mark c joint)) p r g h = ap (λ x. begins_any comment_fronts (x ++ r)) h.0 ∙ mark_plain c joint r h.1
no_comment b (Leaf (Literal text)) p r g h = ap (λ x. begins_any comment_fronts (x ++ r)) h.0
    ∙ literal_plain text r r h.1

-- ---- before which pieces a mark is Joint

pub alone_before : (r : List ℕ) → first_passes is_mark r ≡ false → joint_before r ≡ false
alone_before r h = and_left (first_passes is_mark r) (not (begins_any comment_fronts r)) h

alone_comment : (r : List ℕ) → begins_any comment_fronts r ≡ true → joint_before r ≡ false
alone_comment r h = and_right (first_passes is_mark r) (not (begins_any comment_fronts r))
    (not_from_true (begins_any comment_fronts r) h)

joins_before : (r : List ℕ) → first_passes is_mark r ≡ true → begins_any comment_fronts r ≡ false
    → joint_before r ≡ true
joins_before r h plain =
    and_from (first_passes is_mark r) (not (begins_any comment_fronts r)) h
    (not_from_false (begins_any comment_fronts r) plain)

literal_joint : (p r : List ℕ) → AnyLiteral p r → joint_before (p ++ r) ≡ first_passes (λ x. x == 39) p
literal_joint p r h =
    let first = literal_first p r h in
    elim (cases_Bool (first.first == 39)) [
      | inl same ↦
          joins_before (p ++ r) (begins_as is_mark true r first.whole (first.mark ∙ same)) (literal_plain p r r h)
          ∙ sym (ap (first_passes (λ x. x == 39)) first.whole ∙ same)
      | inr other ↦
          alone_before (p ++ r) (begins_as is_mark false r first.whole (first.mark ∙ other))
          ∙ sym (ap (first_passes (λ x. x == 39)) first.whole ∙ other)
    ]

-- the next piece decides whether a mark is Joint
pub joint_by : (b : Bool) (k : Kind) (p r : List ℕ) → IsPiece b k p r → joint_before (p ++ r) ≡ joins k
joint_by b FrontMark p r h = alone_before (p ++ r) (begins_as is_mark false r h.1 refl)
joint_by b Gap p r (inl h) = alone_before (p ++ r) (begins_as is_mark false r h.1 (white_no_mark h.0 h.2))
joint_by b Gap p r (inr h) = alone_comment (p ++ r) ((comment_first p r h.0).2 r)
joint_by b (Doc inner text) p r h = alone_comment (p ++ r) ((comment_first p r h.comment.0).2 r)
joint_by b (Open c) p r h = let o = open_is b c p r h in
    alone_before (p ++ r) (begins_as is_mark false r o.0 (opener_no_mark c o.1))
joint_by b (Close c) p r h = let o = close_is b c p r h in
    alone_before (p ++ r) (begins_as is_mark false r o.0 (closer_no_mark c o.1))
joint_by b (Leaf (Name true name)) p r h = alone_before (p ++ r) (begins_as is_mark false r h.0 refl)
joint_by b (Leaf (Name false name)) p r h =
    let f = plain_first name r h.1 in
    alone_before (p ++ r) (begins_as is_mark false r (h.0 ∙ f.2) (start_no_mark f.0 f.3))
joint_by b (Leaf (Mark c joint)) p r h =
    joins_before (p ++ r) (begins_as is_mark true r h.0 (stands_mark c joint r h.1))
    (no_comment b (Leaf (Mark c joint)) p r refl h)
joint_by b (Leaf (Literal text)) p r h = ap (λ x. joint_before (x ++ r)) h.0 ∙ literal_joint text r h.1

-- the piece after `'` is one of those that may follow it
pub quoted_by : (b : Bool) (k : Kind) (p r : List ℕ) → IsPiece b k p r → FollowsQuote (p ++ r) → quotes k ≡ true
quoted_by b k p r h f = elim (quote_next b k p r h f) [
  | inl name ↦ ap quotes name.2
  | inr literal ↦
      let stands = subst (λ x. IsPiece b x p r) literal.1 h in
      ap quotes literal.1 ∙ literal_quoted literal.0 r stands.1 (subst (λ x. FollowsQuote (x ++ r)) stands.0 f)
]

-- ---- built tokens may be before a space, a line feed, a closer and the end

-- the characters that no name has: quotes and the hash sign
abbrev no_sign : ℕ → Bool
no_sign c = not (c == 34) && (not (c == 35) && not (c == 39))

sign_ends : (c d : ℕ) → is_ident_continue c ≡ true → is_ident_continue d ≡ false → not (c == d) ≡ true
sign_ends c d s n = not_from_false (c == d)
    (false_from_ne_true (c == d)
    (λ same. both_ways (is_ident_continue d) n (ap is_ident_continue (sym (eqb-true c d same)) ∙ s)))

continue_no_sign : (c : ℕ) → is_ident_continue c ≡ true → no_sign c ≡ true
continue_no_sign c s =
    and_from _ _ (sign_ends c 34 s (ident_continue_ascii 34 (omega arith)))
    (and_from _ _ (sign_ends c 35 s (ident_continue_ascii 35 (omega arith)))
    (sign_ends c 39 s (ident_continue_ascii 39 (omega arith))))

no_signs : (text : List ℕ) → list_all is_ident_continue text ≡ true → list_all no_sign text ≡ true
no_signs [] all = refl
no_signs (c ∷ text) all = let parts = and_parts _ _ all in
    and_from _ _ (continue_no_sign c parts.0) (no_signs text parts.1)

-- no literal begins with `r#` and a name
raw_plain : (c : ℕ) (rest : List ℕ) → no_sign c ≡ true → begins_any literal_prefixes (114 ∷ 35 ∷ c ∷ rest) ≡ false
raw_plain c rest s =
    let parts = and_parts (not (c == 34)) (not (c == 35) && not (c == 39)) s in
    let other : (34 == c) ≡ false = turned c 34 parts.0 in
    let more : (35 == c) ≡ false = turned c 35 (and_parts (not (c == 35)) (not (c == 39)) parts.1).0 in
    rw other (rw more refl)
  where
    turned : (c d : ℕ) → not (c == d) ≡ true → (d == c) ≡ false
    turned c d h = false_from_ne_true (d == c)
        (λ same. both_ways (c == d) (not-true _ h) (eq-eqb c d (sym (eqb-true d c same))))

pub built_identifier : (raw : Bool) (name : List ℕ) → IsBuiltToken (Name raw name) → Identifier raw name []
built_identifier true name h =
    let n = h.0 in
    let text : name ++ [] ≡ n.first.0 ∷ (n.back ++ []) =
    ap (λ x. x ++ []) (n.whole ∙ ap (λ x. x ++ n.back) n.first.1) in
    let sign = continue_no_sign n.first.0 (start_continues n.first.0 n.first.2) in
    ((h.0, h.1), ap (λ x. begins_any literal_prefixes (codes "r#" ++ x)) text ∙ raw_plain n.first.0 (n.back ++ []) sign)
built_identifier false name h =
    let all = no_signs name (name_continues name [] h.0) in (
      (h.0, ap (begins_any (codes "r#" ∷ [])) (append-nil name) ∙ none_begins no_sign (codes "r#" ∷ []) name refl all),
      ap (begins_any literal_prefixes) (append-nil name) ∙ none_begins no_sign literal_prefixes name refl all,
    )

pub name_stands : (raw : Bool) (name s : List ℕ) → IsBuiltToken (Name raw name) → stops s ≡ true
    → Stands (Name raw name) s
name_stands raw name s h e = identifier_before_stop raw name [] s e (built_identifier raw name h)

-- a mark other than `'` is in this class
pub plain_mark : (c : ℕ) → is_mark c ≡ true → c ≢ 39 → IsTrue (is_mark c && not (c == 39))
plain_mark c m other = and_from (is_mark c) (not (c == 39)) m (not_from_false (c == 39) (ne_eqb c 39 other))

pub alone_stands : (c : ℕ) (s : List ℕ) → is_mark c ≡ true → c ≢ 39 → stops s ≡ true → Stands (Mark c false) s
alone_stands c s m other e = inl
    (mark_before_stop c [] s e ((c, refl, plain_mark c m other), mark_ends c), sym (stop_alone s e))

-- a Joint mark before a piece that it joins
pub joint_stands : (c : ℕ) (b : Bool) (k : Kind) (p r : List ℕ) → is_mark c ≡ true → c ≢ 39 → IsPiece b k p r
    → joins k ≡ true
    → begins_any comment_fronts (c ∷ (p ++ r)) ≡ false → Stands (Mark c true) (p ++ r)
joint_stands c b k p r m other h j plain = inl (((c, refl, plain_mark c m other), plain), sym (joint_by b k p r h ∙ j))

pub whole_any : (text : List ℕ) → IsBuiltToken (Literal text) → AnyLiteral text []
unfolding literals.IsLiteralToken
whole_any text is = is.0

pub literal_stands : (text s : List ℕ) → IsBuiltToken (Literal text) → stops s ≡ true → Stands (Literal text) s
literal_stands text s h e = literal_before_stop text [] s e (whole_any text h)

-- ---- openers

-- a text that doesn't begin with a prefix doesn't begin with a longer one
begins_longer : (front more text : List ℕ) → begins_with front text ≡ false → begins_with (front ++ more) text ≡ false
begins_longer [] more text h = absurd (both_ways true h refl)
begins_longer (c ∷ front) more [] h = refl
begins_longer (c ∷ front) more (d ∷ text) h = elim (and_cases (c == d) (begins_with front text) h) [
  | inl here ↦ and_left (c == d) (begins_with (front ++ more) text) here
  | inr there ↦ and_right (c == d) (begins_with (front ++ more) text) (begins_longer front more text there)
]

-- the literal that begins with `(` can't begin if no comment begins after the `(`
pub no_error : (r : List ℕ) → begins_any comment_fronts r ≡ false → begins_any (error_literal ∷ []) (40 ∷ r) ≡ false
no_error r plain =
    let parts = or_parts (begins_with (codes "//") r) (begins_any (codes "/*" ∷ []) r) plain in
    let more = or_parts (begins_with (codes "/*") r) false parts.1 in
    or_from _ _ (begins_longer (codes "/*") (codes "ERROR*/)") r more.0) refl

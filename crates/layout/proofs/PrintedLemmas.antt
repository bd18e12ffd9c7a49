-- The printed text of a well spaced stream is a layout of it.
use Rattle.std.proofs.Common.{◌≡◌, ℕ, Bool, true, false, ◌&&◌, ◌==◌, List, [], ◌∷◌, ◌++◌}
use Rattle.std.proofs.Common.{refl, sym, ap, ◌∙◌, append_assoc, append-nil}
use Rattle.std.specs.Prelude.{if◌then◌else◌}
use Rattle.std.specs.Char.{is_ascii_digit}
use Rattle.std.proofs.lemmas.Bool.{and_left, both_ways, and_parts, and_from, or_right, not_from_false}
use Rattle.std.proofs.Common.{None as Nothing}
use Rattle.unicode_ident.proofs.Computing.{unicode_ident}
use Rattle.lexical.specs.Class.{is_ident_continue}
use Rattle.lexical.specs.Text.{first_passes}
use Rattle.lexical.specs.Token.{Token, Name, Mark, Literal, token_text}
use Rattle.pm_token.specs.declared.delimiters.Delimiter.{Delimiter}
use Rattle.pm_token.specs.declared.delimiters.Delimiter.TheVariants.{Parenthesis, Brace, Bracket, None}
use Rattle.pm_stream.specs.Delimited.{opening, closing, is_brace}
use Rattle.pm_stream.specs.Events.{Event, One, Opens, Closes}
use Rattle.pm_stream.specs.Forest.{Forest, nil, leaf, group, flat_onto}
use Rattle.pm_stream.specs.Printed.{parts, space, printed_after, printed}
use Rattle.pm_stream.specs.Shown.{is_shown}
use Rattle.pm_stream.specs.WellSpaced.{fits, next_token, well_spaced, IsWellSpaced}
use Rattle.layout.specs.Layout.{parts_number, parts_from, is_joint, must_part, Laid, laid_onto, events_of, IsGap}
use Rattle.layout.specs.Layout.{AreGaps, laid_front, may_part, may_follow, keeps_apart, IsLayout}

-- ---- the layout

-- trees with the gaps that printing puts before them, and then `xs`
abbrev pub laid_after : Bool → Forest → List Laid → List Laid
laid_after gap nil xs = xs
laid_after gap (leaf token lo hi f) xs = (space gap, One token lo hi) ∷ laid_after (parts token) f xs
laid_after gap (group d lo hi f k) xs =
    (space gap, Opens d lo) ∷ laid_after (is_brace d) f ((space (is_brace d), Closes d hi) ∷ laid_after true k xs)

laid_text : (gap : Bool) (f : Forest) (xs : List Laid) (last : List ℕ)
    → printed_after gap f ++ laid_onto xs last ≡ laid_onto (laid_after gap f xs) last
laid_text gap nil xs last = refl
laid_text gap (leaf token lo hi f) xs last =
    simp append_assoc (ap (λ x. space gap ++ (token_text token ++ x)) (laid_text (parts token) f xs last))
laid_text gap (group d lo hi f k) xs last =
    let close = (space (is_brace d), Closes d hi) ∷ laid_after true k xs in
    simp append_assoc
    (ap (λ x. space gap ++ (opening d ++ (printed_after (is_brace d) f ++ (space (is_brace d) ++ (closing d ++ x)))))
    (laid_text true k xs last)
    ∙ ap (λ x. space gap ++ (opening d ++ x)) (laid_text (is_brace d) f close last))

laid_events : (gap : Bool) (f : Forest) (xs : List Laid) → events_of (laid_after gap f xs) ≡ flat_onto f (events_of xs)
laid_events gap nil xs = refl
laid_events gap (leaf token lo hi f) xs = ap (λ es. One token lo hi ∷ es) (laid_events (parts token) f xs)
laid_events gap (group d lo hi f k) xs =
    ap (λ es. Opens d lo ∷ es)
    (laid_events (is_brace d) f ((space (is_brace d), Closes d hi) ∷ laid_after true k xs)
    ∙ ap (λ es. flat_onto f (Closes d hi ∷ es)) (laid_events true k xs))

space_gap : (gap : Bool) → IsGap (space gap)
space_gap true = refl
space_gap false = refl

laid_gaps : (gap : Bool) (f : Forest) (xs : List Laid) → AreGaps xs
    → AreGaps (laid_after gap f xs)
laid_gaps gap nil xs more = more
laid_gaps gap (leaf token lo hi f) xs more = (space_gap gap, laid_gaps (parts token) f xs more)
laid_gaps gap (group d lo hi f k) xs more =
    (space_gap gap, laid_gaps (is_brace d) f _ (space_gap (is_brace d), laid_gaps true k xs more))

-- ---- the printed gaps are allowed

-- no closer extends a literal
literal_closer : (b : Bool) (d : Delimiter)
    → first_passes (if b then parts_number else is_ident_continue) (closing d) ≡ false
unfolding unicode_ident
literal_closer true Parenthesis = refl
literal_closer true Brace = refl
literal_closer true Bracket = refl
literal_closer true None = refl
literal_closer false Parenthesis = refl
literal_closer false Brace = refl
literal_closer false Bracket = refl
literal_closer false None = refl

closer_parts : (token : Token) (d : Delimiter) → first_passes (parts_from token) (closing d) ≡ false
unfolding unicode_ident
closer_parts (Name raw name) Parenthesis = refl
closer_parts (Name raw name) Brace = refl
closer_parts (Name raw name) Bracket = refl
closer_parts (Name raw name) None = refl
closer_parts (Mark c joint) Parenthesis = refl
closer_parts (Mark c joint) Brace = refl
closer_parts (Mark c joint) Bracket = refl
closer_parts (Mark c joint) None = refl
closer_parts (Literal text) d = literal_closer (first_passes is_ascii_digit text) d

no_joint_last : (c : ℕ) → fits (Mark c true) Nothing ≡ true → ⊥
no_joint_last c fit = by_quote (c == 39) fit
  where
    by_quote : (b : Bool) → (if b then false else false) ≡ true → ⊥
    by_quote true e = both_ways false refl e
    by_quote false e = both_ways false refl e

-- `xs` may follow any token that is not Joint, and any delimiter
abbrev MayEnd : List Laid → Type 0
MayEnd xs = (before : Event) → is_joint before ≡ false → may_follow before xs ≡ true

closer_may : (before : Event) (gap : Bool) (d : Delimiter) (hi : ℕ) (later : List ℕ) → is_joint before ≡ false
    → may_part before (space gap) (Closes d hi) later ≡ true
closer_may before true d hi later alone = not_from_false (is_joint before) alone
closer_may (One token lo hi) false d end later alone =
    or_right (is_joint (One token lo hi)) _ (not_from_false _ (and_left _ _ (closer_parts token d)))
closer_may (Opens c lo) false d hi later alone = refl
closer_may (Closes c lo) false d hi later alone = refl

-- the gap that printing puts after a token is allowed
token_may : (token : Token) (lo hi : ℕ) (f : Forest) (xs : List Laid) → fits token (next_token f) ≡ true → MayEnd xs
    → may_follow (One token lo hi) (laid_after (parts token) f xs) ≡ true
token_may (Name raw name) lo hi nil xs fit more = more (One (Name raw name) lo hi) refl
token_may (Name raw name) lo hi (leaf t a b f) xs fit more = refl
token_may (Name raw name) lo hi (group d a b f k) xs fit more = refl
token_may (Mark c true) lo hi nil xs fit more = absurd (no_joint_last c fit)
token_may (Mark c true) lo hi (leaf t a b f) xs fit more = refl
token_may (Mark c true) lo hi (group d a b f k) xs fit more = refl
token_may (Mark c false) lo hi nil xs fit more = more (One (Mark c false) lo hi) refl
token_may (Mark c false) lo hi (leaf t a b f) xs fit more = refl
token_may (Mark c false) lo hi (group d a b f k) xs fit more = refl
token_may (Literal text) lo hi nil xs fit more = more (One (Literal text) lo hi) refl
token_may (Literal text) lo hi (leaf t a b f) xs fit more = refl
token_may (Literal text) lo hi (group d a b f k) xs fit more = refl

-- any gap is allowed after a delimiter
delimiter_may : (before : Event) (gap : Bool) (f : Forest) (xs : List Laid)
    → ((next : Event) (later : List ℕ) → must_part before next later ≡ false) → is_joint before ≡ false
    → may_follow before xs ≡ true → may_follow before (laid_after gap f xs) ≡ true
delimiter_may before gap nil xs free alone more = more
delimiter_may before true (leaf t a b f) xs free alone more = not_from_false (is_joint before) alone
delimiter_may before false (leaf t a b f) xs free alone more =
    or_right (is_joint before) _ (not_from_false _ (free (One t a b) (laid_front (laid_after (parts t) f xs))))
delimiter_may before true (group d a b f k) xs free alone more = not_from_false (is_joint before) alone
delimiter_may before false (group d a b f k) xs free alone more =
    or_right (is_joint before) _ (not_from_false _ (free (Opens d a)
    (laid_front (laid_after (is_brace d) f ((space (is_brace d), Closes d b) ∷ laid_after true k xs)))))

laid_apart : (gap : Bool) (f : Forest) (xs : List Laid) → well_spaced f ≡ true → MayEnd xs → keeps_apart xs ≡ true
    → keeps_apart (laid_after gap f xs) ≡ true
laid_apart gap nil xs w more kept = kept
laid_apart gap (leaf token lo hi f) xs w more kept =
    let both = and_parts (fits token (next_token f)) (well_spaced f) w in
    and_from _ _ (token_may token lo hi f xs both.0 more) (laid_apart (parts token) f xs both.1 more kept)
laid_apart gap (group d lo hi f k) xs w more kept =
    let both = and_parts (is_shown d) (well_spaced f && well_spaced k) w in
    let deep = and_parts (well_spaced f) (well_spaced k) both.1 in
    let rest = laid_after true k xs in
    let close = (space (is_brace d), Closes d hi) ∷ rest in
    let later = delimiter_may (Closes d hi) true k xs (λ next later. refl) refl (more (Closes d hi) refl) in
    let closed : keeps_apart close ≡ true = and_from _ _ later (laid_apart true k xs deep.1 more kept) in
    let ends : MayEnd close = λ before alone. closer_may before (is_brace d) d hi (laid_front rest) alone in
    and_from _ _ (delimiter_may (Opens d lo) (is_brace d) f close (λ next later. refl) refl (ends (Opens d lo) refl))
    (laid_apart (is_brace d) f close deep.0 ends closed)

pub printed_layout : (stream : Forest) → IsWellSpaced stream → IsLayout stream (printed stream)
printed_layout stream w = record {
  laid = laid_after false stream [];
  last = [];
  whole = sym (append-nil (printed stream)) ∙ laid_text false stream [] [];
  events = laid_events false stream [];
  gaps = laid_gaps false stream [] tt;
  end = refl;
  apart = laid_apart false stream [] w (λ before alone. refl) refl;
}

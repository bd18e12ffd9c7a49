-- The chosen white space, as pieces that cover what is written.
use Rattle.std.proofs.Common.{◌≡◌, ℕ, zero, suc, Bool, true, false, not, ◌&&◌, ◌||◌, ◌==◌, List, [], ◌∷◌, ◌++◌}
use Rattle.std.proofs.Common.{codes}
use Rattle.std.proofs.Common.{refl, sym, ap, ap₂, ◌∙◌, subst, inl, inr, append_assoc, append-nil}
use Rattle.std.specs.Prelude.{if◌then◌else◌}
use Rattle.std.specs.List.{list_all}
use Rattle.std.proofs.lemmas.Bool.{both_ways, and_parts, and_from, and_right, cases_Bool, eqb-true}
use Rattle.std.proofs.lemmas.Bool.{cond-true, cond-false, not-false}
use Rattle.lexical.specs.Class.{is_white}
use Rattle.lexical.specs.Comment.{Comment}
use Rattle.lexical.specs.Cover.{onto, StandBefore, IsCover}
use Rattle.lexical.specs.Piece.{Piece, FrontMark, Gap, Doc, Open, Close, Leaf, IsPiece}
use Rattle.lexical.specs.Text.{begins_with, first_passes}
use Rattle.lexical.proofs.CommentKindLemmas.{comment_first, front_is}
use Rattle.grammar_laws.proofs.StableLemmas.{all_append}
use Rattle.relayout.specs.Relayout.{Becomes, Spaced, is_line, may_become, pieces_of, white_pieces}
use Rattle.relayout.specs.Written.{choices_left, ends_line, is_white_gap, line_end, line_ends, next_choice, replacement}
use Rattle.relayout.specs.Written.{times, solid_pieces, relayout_text}
use Rattle.relayout.specs.declared.white.White.{White}
use Rattle.relayout.specs.declared.white.White.TheVariants.{Kept, Space, Lines}
use Rattle.relayout.proofs.CoverLemmas.{change, onto_white, still_cover}

-- ---- pieces with the white space before them

abbrev pub spaced_pieces : List ℕ → List Piece → List Spaced
spaced_pieces white [] = []
spaced_pieces white (x ∷ ps) = if is_white_gap x then spaced_pieces (white ++ x.1) ps else (white, x)
    ∷ spaced_pieces [] ps

abbrev pub last_white : List ℕ → List Piece → List ℕ
last_white white [] = white
last_white white (x ∷ ps) = if is_white_gap x then last_white (white ++ x.1) ps else last_white [] ps

-- a piece of a white character is a gap that is white
pub gap_is : (first : Bool) (x : Piece) (r : List ℕ) → IsPiece first x.0 x.1 r → is_white_gap x ≡ true
    → (c : ℕ) × (x ≡ (Gap, c ∷ [])) × (is_white c ≡ true)
gap_is first (FrontMark, p) r h e = absurd (both_ways false refl e)
gap_is first (Gap, p) r (inl h) e = (h.0, ap (λ t. (Gap, t)) h.1, h.2)
gap_is first (Gap, p) r (inr h) e =
    let at = comment_first p r h.0 in
    absurd (both_ways _ (ap (λ t. not (begins_with (codes "/") t)) at.1) e)
gap_is first (Doc inner text, p) r h e = absurd (both_ways false refl e)
gap_is first (Open c, p) r h e = absurd (both_ways false refl e)
gap_is first (Close c, p) r h e = absurd (both_ways false refl e)
gap_is first (Leaf token, p) r h e = absurd (both_ways false refl e)

white_more : (white : List ℕ) (c : ℕ) (ps : List Piece)
    → white_pieces (white ++ (c ∷ [])) ps ≡ white_pieces white ((Gap, c ∷ []) ∷ ps)
white_more [] c ps = refl
white_more (d ∷ white) c ps = ap (λ x. (Gap, d ∷ []) ∷ x) (white_more white c ps)

-- pieces that are split into white space and others join to the same pieces again
pub spaced_is : (first : Bool) (white : List ℕ) (ps : List Piece) → StandBefore first ps []
    → pieces_of (spaced_pieces white ps) (last_white white ps) ≡ white_pieces white ps
spaced_is first white [] stand = refl
spaced_is first white (x ∷ ps) stand = elim (cases_Bool (is_white_gap x)) [
  | inl gap ↦
      let is = gap_is first x (onto ps []) stand.0 gap in
      ap₂ pieces_of (cond-true _ _ _ gap) (cond-true _ _ _ gap)
      ∙ (spaced_is false (white ++ x.1) ps stand.1
      ∙ (ap (λ y. white_pieces (white ++ y.1) ps) is.1
      ∙ (white_more white is.0 ps ∙ ap (λ y. white_pieces white (y ∷ ps)) (sym is.1))))
  | inr solid ↦
      ap₂ pieces_of (cond-false _ _ _ solid) (cond-false _ _ _ solid)
      ∙ ap (λ qs. white_pieces white (x ∷ qs)) (spaced_is false [] ps stand.1)
]

-- ---- pieces with the chosen white space

abbrev pub chosen_whites : List White → Bool → List Spaced → List Spaced
chosen_whites choices line [] = []
chosen_whites choices line (x ∷ xs) =
    (replacement (next_choice choices) line x.0, x.1) ∷ chosen_whites (choices_left choices x.0) (is_line x.1) xs

abbrev pub chosen_last : List White → Bool → List Spaced → List ℕ → List ℕ
chosen_last choices line [] last = replacement (next_choice choices) line last
chosen_last choices line (x ∷ xs) last = chosen_last (choices_left choices x.0) (is_line x.1) xs last

abbrev pub chosen_pieces : List White → Bool → List Spaced → List ℕ → List Piece
chosen_pieces choices line xs last = pieces_of (chosen_whites choices line xs) (chosen_last choices line xs last)

-- what is written is the text of the pieces with the chosen white space
pub written_is : (choices : List White) (line : Bool) (white : List ℕ) (ps : List Piece)
    → relayout_text choices line white ps
    ≡ onto (chosen_pieces choices line (spaced_pieces white ps) (last_white white ps)) []
written_is choices line white [] = sym (onto_white (replacement (next_choice choices) line white) [] [] ∙ append-nil _)
written_is choices line white (x ∷ ps) = elim (cases_Bool (is_white_gap x)) [
  | inl gap ↦
      cond-true _ _ _ gap
      ∙ (written_is choices line (white ++ x.1) ps
      ∙ sym (ap₂ (λ xs last. onto (chosen_pieces choices line xs last) []) (cond-true _ _ _ gap) (cond-true _ _ _ gap)))
  | inr solid ↦
      let now = replacement (next_choice choices) line white in
      let left = choices_left choices white in
      cond-false _ _ _ solid
      ∙ (ap (λ t. now ++ (x.1 ++ t)) (written_is left (is_line x) [] ps)
      ∙ (sym (onto_white now (x ∷ chosen_pieces left (is_line x) (spaced_pieces [] ps) (last_white [] ps)) [])
      ∙ sym (ap₂ (λ xs last. onto (chosen_pieces choices line xs last) []) (cond-false _ _ _ solid)
      (cond-false _ _ _ solid))))
]

-- ---- the chosen white space is allowed

may_from : (line : Bool) (c : ℕ) (w : List ℕ) (d : ℕ) (v : List ℕ) → list_all is_white (c ∷ w) ≡ true
    → list_all is_white (d ∷ v) ≡ true → (line ≡ true → d ≡ 10) → may_become line (c ∷ w) (d ∷ v) ≡ true
may_from line c w d v old new feed = and_from _ _ old (and_from _ _ new (no_line_feed line feed))
  where
    no_line_feed : (line : Bool) → (line ≡ true → d ≡ 10) → (not line || (d == 10)) ≡ true
    no_line_feed true feed = subst (λ x. (x == 10) ≡ true) (sym (feed refl)) refl
    no_line_feed false feed = refl

repeated_white : (c n : ℕ) → is_white c ≡ true → list_all is_white (times c n) ≡ true
repeated_white c zero is = refl
repeated_white c (suc n) is = and_from _ _ is (repeated_white c n is)

end_white : (returned : Bool) (c : ℕ) → list_all is_white (line_end returned c) ≡ true
end_white returned c = elim (cases_Bool (c == 10)) [
  | inl feed ↦ ap (list_all is_white) (cond-true _ _ _ feed) ∙ either returned
  | inr other ↦ ap (list_all is_white) (cond-false _ _ _ other)
]
  where
    either : (returned : Bool) → list_all is_white (if returned then codes "\r\n" else codes "\n") ≡ true
    either true = refl
    either false = refl

ends_white : (returned : Bool) (white : List ℕ) → list_all is_white (line_ends returned white) ≡ true
ends_white returned [] = refl
ends_white returned (c ∷ white) =
    all_append is_white (line_end returned c) (line_ends (c == 13) white) (end_white returned c)
    (ends_white (c == 13) white)

-- white space with an LF has a line end, which is LF alone if the white space begins with LF
ends_some : (returned : Bool) (white : List ℕ) → ends_line white ≡ true
    → (d : ℕ) × (more : List ℕ) × (line_ends returned white ≡ d ∷ more)
ends_some returned [] some = absurd (both_ways false refl some)
ends_some returned (c ∷ white) some = elim (cases_Bool (c == 10)) [
  | inl feed ↦
      let end = either returned in (
        end.0,
        end.1 ++ line_ends (c == 13) white,
        ap (λ e. e ++ line_ends (c == 13) white) (cond-true _ _ _ feed ∙ end.2),
      )
  | inr other ↦
      let rest : ends_line white ≡ true = sym (ap (λ b. b || ends_line white) other) ∙ some in
      let more = ends_some (c == 13) white rest in
      (more.0, more.1, ap (λ e. e ++ line_ends (c == 13) white) (cond-false _ _ _ other) ∙ more.2)
]
  where
    either : (returned : Bool)
        → (d : ℕ) × (more : List ℕ) × ((if returned then codes "\r\n" else codes "\n") ≡ d ∷ more)
    either true = (13, 10 ∷ [], refl)
    either false = (10, [], refl)

may_place : (choice : White) (line : Bool) (white : List ℕ) → list_all is_white white ≡ true
    → (line ≡ true → first_passes (λ c. not (c == 10)) white ≡ false)
    → may_become line white (replacement choice line white) ≡ true
may_place choice line [] all feed = refl
may_place Kept line (c ∷ white) all feed =
    may_from line c white c white all all (λ l. eqb-true c 10 (not-false _ (feed l)))
may_place Space true (c ∷ white) all feed = may_from true c white 10 [] all refl (λ l. refl)
may_place Space false (c ∷ white) all feed =
    may_from false c white 32 [] all refl (λ l. absurd (both_ways false refl l))
may_place (Lines tabs spaces) line (c ∷ white) all feed = elim (cases_Bool (ends_line (c ∷ white))) [
  | inl some ↦ subst (λ t. may_become line (c ∷ white) t ≡ true) (sym (cond-true _ _ _ some)) (by_line line feed some)
  | inr none ↦ subst (λ t. may_become line (c ∷ white) t ≡ true) (sym (cond-false _ _ _ none))
      (may_from line c white c white all all (λ l. eqb-true c 10 (not-false _ (feed l))))
]
  where
    indent : List ℕ
    indent = times 9 tabs ++ times 32 spaces

    indent_white : list_all is_white indent ≡ true
    indent_white =
        all_append is_white (times 9 tabs) (times 32 spaces) (repeated_white 9 tabs refl)
        (repeated_white 32 spaces refl)

    all_white : list_all is_white (line_ends false (c ∷ white) ++ indent) ≡ true
    all_white =
        all_append is_white (line_ends false (c ∷ white)) indent (ends_white false (c ∷ white)) indent_white

    by_line : (line : Bool) → (line ≡ true → not (c == 10) ≡ false) → ends_line (c ∷ white) ≡ true
        → may_become line (c ∷ white) (line_ends false (c ∷ white) ++ indent) ≡ true
    by_line false feed some =
        let first = ends_some false (c ∷ white) some in
        subst (λ t. may_become false (c ∷ white) (t ++ indent) ≡ true) (sym first.2)
        (may_from false c white first.0 (first.1 ++ indent) all
        (ap (λ t. list_all is_white (t ++ indent)) (sym first.2) ∙ all_white) (λ l. absurd (both_ways false refl l)))
    by_line true feed some =
        let is : line_ends false (c ∷ white) ≡ 10 ∷ line_ends (c == 13) white =
        ap (λ t. t ++ line_ends (c == 13) white) (cond-true _ _ _ (not-false _ (feed refl))) in
        subst (λ t. may_become true (c ∷ white) (t ++ indent) ≡ true) (sym is)
        (may_from true c white 10 (line_ends (c == 13) white ++ indent) all
        (ap (λ t. list_all is_white (t ++ indent)) (sym is) ∙ all_white) (λ l. refl))

-- ---- after a line comment

line_stops : (p r : List ℕ) → Comment p r → begins_with (codes "//") p ≡ true
    → first_passes (λ c. not (c == 10)) r ≡ false
line_stops p r (inl line) begins = line.second.stops
line_stops p r (inr block) begins = absurd (both_ways _ (ap (begins_with (codes "//")) (front_is block)) begins)

no_line_feed : (first : Bool) (x : Piece) (r : List ℕ) → IsPiece first x.0 x.1 r → is_line x ≡ true
    → first_passes (λ c. not (c == 10)) r ≡ false
no_line_feed first (FrontMark, p) r h e = absurd (both_ways false refl e)
no_line_feed first (Gap, p) r (inl h) e =
    absurd (both_ways _ (ap (begins_with (codes "//")) h.1 ∙ and_right (47 == h.0) false refl) e)
no_line_feed first (Gap, p) r (inr h) e = line_stops p r h.0 e
no_line_feed first (Doc inner text, p) r h e = line_stops p r h.comment.0 e
no_line_feed first (Open c, p) r h e = absurd (both_ways false refl e)
no_line_feed first (Close c, p) r h e = absurd (both_ways false refl e)
no_line_feed first (Leaf token, p) r h e = absurd (both_ways false refl e)

feed_front : (white r : List ℕ) → first_passes (λ c. not (c == 10)) (white ++ r) ≡ false
    → first_passes (λ c. not (c == 10)) white ≡ false
feed_front [] r e = refl
feed_front (c ∷ white) r e = e

-- ---- all pieces

pub chosen_becomes : (first : Bool) (choices : List White) (line : Bool) (white : List ℕ) (ps : List Piece)
    → StandBefore first ps [] → list_all is_white white ≡ true
    → (line ≡ true → first_passes (λ c. not (c == 10)) (white ++ onto ps []) ≡ false)
    → Becomes line (spaced_pieces white ps) (last_white white ps) (chosen_whites choices line (spaced_pieces white ps))
    (chosen_last choices line (spaced_pieces white ps) (last_white white ps))
chosen_becomes first choices line white [] stand all feed =
    may_place (next_choice choices) line white all (λ l. feed_front white [] (feed l))
chosen_becomes first choices line white (x ∷ ps) stand all feed = elim (cases_Bool (is_white_gap x)) [
  | inl gap ↦
      let is = gap_is first x (onto ps []) stand.0 gap in
      let more : list_all is_white (white ++ x.1) ≡ true =
      all_append is_white white x.1 all (ap (λ y. list_all is_white y.1) is.1 ∙ and_from _ _ is.2 refl) in
      subst (λ (xs : List Spaced × List ℕ). Becomes line xs.0 xs.1 (chosen_whites choices line xs.0)
      (chosen_last choices line xs.0 xs.1))
      (sym (ap₂ (λ xs last. (xs, last))
      (cond-true (is_white_gap x) (spaced_pieces (white ++ x.1) ps) ((white, x) ∷ spaced_pieces [] ps) gap)
      (cond-true (is_white_gap x) (last_white (white ++ x.1) ps) (last_white [] ps) gap)))
      (chosen_becomes false choices line (white ++ x.1) ps stand.1 more
      (λ l. ap (first_passes (λ c. not (c == 10))) (append_assoc white x.1 (onto ps [])) ∙ feed l))
  | inr solid ↦
      subst (λ (xs : List Spaced × List ℕ). Becomes line xs.0 xs.1 (chosen_whites choices line xs.0)
      (chosen_last choices line xs.0 xs.1))
      (sym (ap₂ (λ xs last. (xs, last))
      (cond-false (is_white_gap x) (spaced_pieces (white ++ x.1) ps) ((white, x) ∷ spaced_pieces [] ps) solid)
      (cond-false (is_white_gap x) (last_white (white ++ x.1) ps) (last_white [] ps) solid))) (
        refl,
        may_place (next_choice choices) line white all (λ l. feed_front white (x.1 ++ onto ps []) (feed l)),
        chosen_becomes false (choices_left choices white) (is_line x) [] ps stand.1 refl
            (no_line_feed first x (onto ps []) stand.0),
      )
]

-- ---- the pieces that are not white stay

pub white_is_gap : (c : ℕ) → is_white c ≡ true → is_white_gap (Gap, c ∷ []) ≡ true
white_is_gap c white =
    not_of ((47 == c) && true) (λ both. both_ways (is_white 47) refl
    (subst (λ x. is_white x ≡ true) (sym (eqb-true 47 c (and_parts (47 == c) true both).0)) white))
  where
    not_of : (b : Bool) → (b ≡ true → ⊥) → not b ≡ true
    not_of true none = absurd (none refl)
    not_of false none = refl

solid_white : (white : List ℕ) (ps : List Piece) → list_all is_white white ≡ true
    → solid_pieces (white_pieces white ps) ≡ solid_pieces ps
solid_white [] ps all = refl
solid_white (c ∷ white) ps all =
    let both = and_parts (is_white c) (list_all is_white white) all in
    cond-true _ _ _ (white_is_gap c both.0) ∙ solid_white white ps both.1

-- white space becomes white space
both_white : (line : Bool) (old new : List ℕ) → may_become line old new ≡ true
    → (list_all is_white old ≡ true) × (list_all is_white new ≡ true)
both_white line old new e = elim (change line old new e) [
  | inl none ↦ (ap (list_all is_white) none.0, ap (list_all is_white) none.1)
  | inr (d, before, c, after, was, is, white_d, olds, white_c, news, feed) ↦ (
    ap (list_all is_white) was ∙ and_from _ _ white_d olds,
    ap (list_all is_white) is ∙ and_from _ _ white_c news,
  )
]

solid_one : (x : Piece) (us vs : List Piece) → solid_pieces us ≡ solid_pieces vs
    → solid_pieces (x ∷ us) ≡ solid_pieces (x ∷ vs)
solid_one x us vs same = ap (λ ps. if is_white_gap x then ps else x ∷ ps) same

pub becomes_solid : (line : Bool) (xs : List Spaced) (old : List ℕ) (ys : List Spaced) (new : List ℕ)
    → Becomes line xs old ys new → solid_pieces (pieces_of xs old) ≡ solid_pieces (pieces_of ys new)
becomes_solid line [] old [] new h =
    let both = both_white line old new h in solid_white old [] both.0 ∙ sym (solid_white new [] both.1)
becomes_solid line [] old (y ∷ ys) new h = absurd h
becomes_solid line (x ∷ xs) old [] new h = absurd h
becomes_solid line (x ∷ xs) old (y ∷ ys) new h =
    let both = both_white line x.0 y.0 h.1 in
    solid_white x.0 (x.1 ∷ pieces_of xs old) both.0
    ∙ (solid_one x.1 (pieces_of xs old) (pieces_of ys new) (becomes_solid (is_line x.1) xs old ys new h.2)
    ∙ (ap (λ p. solid_pieces (p ∷ pieces_of ys new)) h.0 ∙ sym (solid_white y.0 (y.1 ∷ pieces_of ys new) both.1)))

-- what is written for pieces that cover a source is covered by the same pieces except for white characters
pub relaid_cover : (source : List ℕ) (choices : List White) (us : List Piece) → IsCover us source
    → (vs : List Piece) × IsCover vs (relayout_text choices false [] us) × (solid_pieces vs ≡ solid_pieces us)
relaid_cover source choices us covers =
    let xs = spaced_pieces [] us in
    let last = last_white [] us in
    let whole : pieces_of xs last ≡ us = spaced_is true [] us covers.stand in
    let becomes = chosen_becomes true choices false [] us covers.stand refl (λ l. absurd (both_ways false refl l)) in
    let same = becomes_solid false xs last (chosen_whites choices false xs) (chosen_last choices false xs last)
    becomes in (
      chosen_pieces choices false xs last,
      subst (IsCover (chosen_pieces choices false xs last)) (sym (written_is choices false [] us))
          (still_cover source xs last (chosen_whites choices false xs) (chosen_last choices false xs last)
          (subst (λ ps. IsCover ps source) (sym whole) covers) becomes),
      sym same ∙ ap solid_pieces whole,
    )

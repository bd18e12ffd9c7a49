-- A source has at most one explanation.
use Rattle.std.proofs.Common.{◌≡◌, ◌⊎◌, ℕ, ◌+◌, Bool, true, false, not, codes, List, [], ◌∷◌, ◌++◌, length, Option}
use Rattle.std.proofs.Common.{Some, None, IfSome}
use Rattle.std.proofs.Common.{inl, inr, refl, sym, ap, ap₂, ◌∙◌, subst, arith, length-append}
use Rattle.std.proofs.lemmas.Bool.{and_parts, both_ways, or_left, or_right}
use Rattle.lexical.specs.Cover.{StandBefore, onto}
use Rattle.lexical.specs.Delimiter.{is_closer, is_opener}
use Rattle.lexical.specs.Piece.{Close, Piece}
use Rattle.lexical.specs.declared.class.PieceStart.TheVariants as starts
use Rattle.lexical.proofs.ClassLemmas.{any_of, start_closer, start_opener}
use Rattle.lexical.proofs.PieceFacts.{piece_not_empty}
use Rattle.lexical.proofs.PieceLemmas.{one_piece}
use Rattle.pm_token.specs.declared.delimiters.Delimiter.{Delimiter}
use Rattle.pm_span.specs.Extent.{Extent}
use Rattle.pm_stream.specs.Delimited.{delimiter_of}
use Rattle.pm_stream.specs.Events.{Balanced, Event, expansion}
use Rattle.pm_stream.specs.Parsing.{is_first}
use Rattle.pm_stream.proofs.EventLemmas.{balanced_has_none}
use Rattle.pm_stream.proofs.LawLemmas.{one_fault}
use Rattle.explain.specs.Explained.{IsExplained, IsLeftOpen, IsOpenerOf, IsRefused, IsStretch, IsStuck}
use Rattle.explain.specs.Explained.{front_of}
use Rattle.pm_stream.specs.Taken.{Waiting}
use Rattle.explain.specs.Open.{LeavesOpen, RefusesFor, WaitsAs, waiting}
use Rattle.explain.specs.Reason.{Holds}
use Rattle.explain.specs.declared.explained.Explained.{Explained}
use Rattle.explain.specs.declared.explained.Opener.{Opener}
use Rattle.explain.specs.declared.explained.Stretch.{Stretch}
use Rattle.explain.specs.declared.reason.Reason.{Reason}
use Rattle.explain.specs.declared.reason.Reason.TheVariants as reasons
use Rattle.explain.specs.Shapes.{begins_nothing}
use Rattle.explain.proofs.ExclusiveLemmas.{one_reason, main_reason_is}
use Rattle.explain.proofs.OnePlaceLemmas.{one_place, same_size}
use Rattle.explain.proofs.MainReason.{content, sort, sort_is, main_reason}
use Rattle.explain.proofs.TextReasonLemmas.{at_front}

-- ---- one position

-- after beginnings of the same length, the rests are equal
one_front : (a b r s : List ℕ) → a ++ r ≡ b ++ s → length a ≡ length b → r ≡ s
one_front [] [] r s e size = e
one_front [] (y ∷ b) r s e size = absurd (omega (arith, size))
one_front (x ∷ a) [] r s e size = absurd (omega (arith, size))
one_front (x ∷ a) (y ∷ b) r s e size =
    let rest : a ++ r ≡ b ++ s = cc in
    one_front a b r s rest (omega (arith, size))

onto_long : (vs : List Piece) (r : List ℕ) → (n : ℕ) × (length (onto vs r) ≡ n + length r)
onto_long [] r = (0, omega arith)
onto_long (v ∷ vs) r =
    let more = onto_long vs r in
    (length v.1 + more.0, omega (arith, length-append v.1 (onto vs r), more.1))

longer : (first : Bool) (v : Piece) (vs : List Piece) (r : List ℕ) → StandBefore first (v ∷ vs) r
    → r ≡ v.1 ++ onto vs r → ⊥
longer first v vs r h e =
    let some = piece_not_empty first v.0 v.1 (onto vs r) h.0 in
    let long = onto_long vs r in
    let size : length v.1 ≡ 1 + length some.1 = omega (arith, ap length some.2) in
    omega (arith, ap length e, length-append v.1 (onto vs r), long.1, size)

-- only one list of pieces covers the text before the rest
one_cover : (first : Bool) (us vs : List Piece) (r : List ℕ) → StandBefore first us r → StandBefore first vs r
    → onto us r ≡ onto vs r → us ≡ vs
one_cover first [] [] r g h e = refl
one_cover first [] (v ∷ vs) r g h e = absurd (longer first v vs r h e)
one_cover first (u ∷ us) [] r g h e = absurd (longer first u us r g (sym e))
one_cover first (u ∷ us) (v ∷ vs) r g h e =
    let same = one_piece first u.0 v.0 u.1 v.1 (onto us r) (onto vs r) g.0 h.0 e in
    ap₂ (λ y ys. y ∷ ys) (ap₂ (λ k p. (k, p)) same.0 same.1) (one_cover false us vs r g.1 h.1 same.2)

-- ---- what begins at the fault

-- `NoToken` is the only reason of its sort
no_token : (x : Reason) → sort x ≡ reasons.NoToken → x ≡ reasons.NoToken
no_token x e = elim (sort_is x) [
  | inl here ↦ here ∙ e
  | inr there ↦
      let clash : ◌≡◌ {A = Reason} content reasons.NoToken = sym (ap sort there.1) ∙ e in absurd (cc)
]

-- no reason holds where an opener is
no_opener : (c : ℕ) (after : List ℕ) → is_opener c ≡ true → (x : Reason) (f p r : List ℕ) → Holds x f p r
    → f ++ (p ++ r) ≡ c ∷ after → ⊥
no_opener c after opens x f p r holds e =
    let none : main_reason (c ∷ after) ≡ reasons.NoToken =
    any_of (λ d. main_reason (d ∷ after) ≡ reasons.NoToken) (codes "([{") c (refl, (refl, (refl, tt))) opens in
    let same : x ≡ reasons.NoToken = no_token x (sym (main_reason_is x f p r holds) ∙ (ap main_reason e ∙ none)) in
    let is : Holds reasons.NoToken f p r = subst (λ z. Holds z f p r) same holds in
    let one = is.1 in
    let front : one.0 ∷ r ≡ c ∷ after = sym (at_front f p r is.0 ∙ ap (λ t. t ++ r) one.1) ∙ e in
    let first : one.0 ≡ c = cc in
    both_ways _ (ap not (or_left _ _ (or_left _ _ (or_left _ _ (or_left _ _ (or_right _ _ opens))))))
    (ap begins_nothing (sym first) ∙ one.2)

-- no character is both an opener and a closer
no_both : (c : ℕ) → is_opener c ≡ true → is_closer c ≡ true → ⊥
no_both c opens closes =
    let clash : starts.Opener ≡ starts.Closer = sym (start_opener c opens) ∙ start_closer c closes in cc

-- ---- why a closer is wrong

-- either no opener is open and the closer is stray, or one is open and the closer is mismatched
refused_for : (d : Delimiter) (reason : Reason) (innermost : Option Opener) → RefusesFor d reason innermost
    → ((reason ≡ reasons.StrayCloser) × (innermost ≡ None))
    ⊎ ((reason ≡ reasons.MismatchedCloser) × ((opener : Opener) × (innermost ≡ Some opener)))
refused_for d reasons.StrayCloser None is = inl (refl, refl)
refused_for d reasons.StrayCloser (Some opener) is = absurd is
refused_for d reasons.MismatchedCloser None is = absurd is
refused_for d reasons.MismatchedCloser (Some opener) is = inr (refl, (opener, refl))
refused_for d _ innermost is = absurd is

-- events can't leave an opener open and also leave none
not_both_open : (events : List Event) (none some : List Waiting) (x : Option Opener) (a b : List Opener)
    → LeavesOpen events none → LeavesOpen events some → WaitsAs none None a → WaitsAs some x b → (opener : Opener)
    → x ≡ Some opener
    → ⊥
not_both_open events none some x a b leaves other waits more opener is =
    let balanced : Balanced events = subst (LeavesOpen events) waits.0 leaves in
    let all : some ≡ (opener.delimiter, opener.at.span.lo) ∷ waiting b = subst (λ o. WaitsAs some o b) is more in
    let left = subst (LeavesOpen events) all other in
    balanced_has_none events left.0 left.1 opener.delimiter opener.at.span.lo balanced left.2 left.3

-- ---- two explanations

module _ (base : ℕ) (source : List ℕ) (x y : Explained) (g : IsExplained base source x) (h : IsExplained base source y)
  where
    place : x.before.span.lo ≡ y.before.span.lo
    place = one_fault base source x.before.span.lo y.before.span.lo g.fault h.fault

    rests : x.before.span.lo ≡ base + length g.text_before → y.before.span.lo ≡ base + length h.text_before
        → g.rest ≡ h.rest
    rests a b = one_front g.text_before h.text_before g.rest h.rest (sym g.whole ∙ h.whole) (omega (arith, a, b, place))

    -- if an opener is left open, the fault is where it begins
    record IsOpened (rest : List ℕ) : Type 0 where
      character : ℕ
      after : List ℕ
      opens : is_opener character ≡ true
      whole : rest ≡ character ∷ after

    opened : x.before.span.lo ≡ base + length g.text_before → IsLeftOpen h.rest y → IsOpened g.rest
    opened a left =
        let says = left.says in
        let stands : IsOpenerOf base source says.opener =
        subst (λ o. IfSome o (IsOpenerOf base source)) says.innermost h.inmost in
        let lo : says.opener.at.span.lo ≡ base + length stands.text_before = ap (λ s. s.lo) stands.at.span in
        let begin : y.before.span.lo ≡ says.opener.at.span.lo = ap (λ s. s.span.lo) says.before in
        record {
          character = stands.character;
          after = stands.after;
          opens = stands.opens;
          whole = one_front g.text_before stands.text_before g.rest (stands.character ∷ stands.after)
              (sym g.whole ∙ stands.whole) (omega (arith, a, lo, begin, place));
        }

    not_stuck_open : IsStuck base g.text_before (is_first g.pieces) g.rest x → IsLeftOpen h.rest y → ⊥
    not_stuck_open stuck left =
        let at = opened (ap (λ s. s.lo) stuck.before.span) left in
        no_opener at.character at.after at.opens x.reason stuck.front stuck.part stuck.after stuck.holds
        (sym stuck.split ∙ at.whole)

    not_refused_open : IsRefused base g.text_before (is_first g.pieces) g.rest x → IsLeftOpen h.rest y → ⊥
    not_refused_open refused left =
        let at = opened (ap (λ s. s.lo) refused.before.span) left in
        let one = refused.stands in
        let front : at.character ∷ at.after ≡ one.0 ∷ refused.after =
        sym at.whole ∙ (refused.split ∙ ap (λ t. t ++ refused.after) one.1) in
        let first : at.character ≡ one.0 = cc in
        no_both one.0 (ap is_opener (sym first) ∙ at.opens) (and_parts (is_closer one.0) _ one.2).0

    not_stuck_refused : IsStuck base g.text_before (is_first g.pieces) g.rest x
        → IsRefused base h.text_before (is_first h.pieces) h.rest y → ⊥
    not_stuck_refused stuck refused =
        stuck.none (Close refused.closer) refused.part refused.after
        (rests (ap (λ s. s.lo) stuck.before.span) (ap (λ s. s.lo) refused.before.span) ∙ refused.split) refused.stands

    both_stuck : IsStuck base g.text_before (is_first g.pieces) g.rest x
        → IsStuck base h.text_before (is_first h.pieces) h.rest y → x.reason ≡ y.reason
    both_stuck stuck other =
        one_reason x.reason y.reason stuck.front stuck.part stuck.after other.front other.part other.after stuck.holds
        other.holds
        (sym stuck.split ∙ (rests (ap (λ s. s.lo) stuck.before.span) (ap (λ s. s.lo) other.before.span) ∙ other.split))

    both_refused : IsRefused base g.text_before (is_first g.pieces) g.rest x
        → IsRefused base h.text_before (is_first h.pieces) h.rest y → x.reason ≡ y.reason
    both_refused refused other =
        let rest = rests (ap (λ s. s.lo) refused.before.span) (ap (λ s. s.lo) other.before.span) in
        let pieces : g.pieces ≡ h.pieces =
        one_cover true g.pieces h.pieces h.rest (subst (StandBefore true g.pieces) rest g.covers.stand) h.covers.stand
        (ap (onto g.pieces) (sym rest) ∙ (sym g.covers.whole ∙ h.covers.whole)) in
        let leaves : LeavesOpen (expansion base h.pieces) g.waits =
        subst (λ us. LeavesOpen (expansion base us) g.waits) pieces g.leaves in
        elim (refused_for (delimiter_of refused.closer) x.reason x.innermost refused.refuses) [
          | inl stray ↦ elim (refused_for (delimiter_of other.closer) y.reason y.innermost other.refuses) [
            | inl also ↦ stray.0 ∙ sym also.0
            | inr mismatched ↦ absurd (not_both_open (expansion base h.pieces) g.waits h.waits y.innermost x.outer.items
                y.outer.items leaves h.leaves (subst (λ o. WaitsAs g.waits o x.outer.items) stray.1 g.waiting_openers)
                h.waiting_openers
                mismatched.1.0 mismatched.1.1)
          ]
          | inr mismatched ↦ elim (refused_for (delimiter_of other.closer) y.reason y.innermost other.refuses) [
            | inl stray ↦ absurd (not_both_open (expansion base h.pieces) h.waits g.waits x.innermost y.outer.items
                x.outer.items h.leaves leaves (subst (λ o. WaitsAs h.waits o y.outer.items) stray.1 h.waiting_openers)
                g.waiting_openers
                mismatched.1.0 mismatched.1.1)
            | inr also ↦ mismatched.0 ∙ sym also.0
          ]
        ]

-- ---- the parts of the text in two explanations

abbrev make_stretch : ℕ → ℕ → Extent → Stretch
make_stretch start end span = record { start = start; end = end; span = span }

-- the `Stretch` of a part of the text is determined
one_stretch : (base : ℕ) (text_before part : List ℕ) (s t : Stretch) → IsStretch base text_before part s
    → IsStretch base text_before part t
    → s ≡ t
one_stretch base text_before part s t is other =
    ap (λ n. make_stretch n s.end s.span) (is.start ∙ sym other.start)
    ∙ (ap (λ n. make_stretch t.start n s.span) (is.end ∙ sym other.end)
    ∙ ap (λ e. make_stretch t.start t.end e) (is.span ∙ sym other.span))

same_stretch : (base : ℕ) (a b p q : List ℕ) (s t : Stretch) → a ≡ b → p ≡ q → IsStretch base a p s
    → IsStretch base b q t
    → s ≡ t
same_stretch base a b p q s t text_before part is other =
    one_stretch base b q s t (subst (λ v. IsStretch base b v s) part (subst (λ v. IsStretch base v p s) text_before is))
    other

abbrev SameReason : Explained → Explained → Type 0
SameReason x y = (x.reason ≡ y.reason) × (x.before ≡ y.before) × (x.at ≡ y.at)

module _ (base : ℕ) (source : List ℕ) (x y : Explained) (g : IsExplained base source x) (h : IsExplained base source y)
  where
    text_befores : x.before.span.lo ≡ base + length g.text_before → y.before.span.lo ≡ base + length h.text_before
        → g.text_before ≡ h.text_before
    text_befores a b =
        (same_size g.text_before h.text_before g.rest h.rest (sym g.whole ∙ h.whole)
        (omega (arith, a, b, place base source x y g h))).0

    reason_stuck : IsStuck base g.text_before (is_first g.pieces) g.rest x
        → IsStuck base h.text_before (is_first h.pieces) h.rest y → SameReason x y
    reason_stuck stuck other =
        let a = ap (λ s. s.lo) stuck.before.span in
        let b = ap (λ s. s.lo) other.before.span in
        let text_before = text_befores a b in
        let text = sym stuck.split ∙ (rests base source x y g h a b ∙ other.split) in
        let reason = both_stuck base source x y g h stuck other in
        let at = one_place y.reason stuck.front stuck.part stuck.after other.front other.part other.after
        (subst (λ z. Holds z stuck.front stuck.part stuck.after) reason stuck.holds) other.holds text in (
          reason,
          same_stretch base g.text_before h.text_before stuck.front other.front x.before y.before text_before at.0
              stuck.before
              other.before,
          same_stretch base (g.text_before ++ stuck.front) (h.text_before ++ other.front) stuck.part other.part x.at
              y.at
              (ap₂ (λ v w. v ++ w) text_before at.0) at.1 stuck.at other.at,
        )

    reason_refused : IsRefused base g.text_before (is_first g.pieces) g.rest x
        → IsRefused base h.text_before (is_first h.pieces) h.rest y → SameReason x y
    reason_refused refused other =
        let a = ap (λ s. s.lo) refused.before.span in
        let b = ap (λ s. s.lo) other.before.span in
        let text_before = text_befores a b in
        let one = refused.stands in
        let two = other.stands in
        let front : one.0 ∷ refused.after ≡ two.0 ∷ other.after =
        ap (λ t. t ++ refused.after) (sym one.1) ∙ (sym refused.split ∙ (rests base source x y g h a b ∙ (other.split
        ∙ ap (λ t. t ++ other.after) two.1))) in
        let first : one.0 ≡ two.0 = cc in
        let part : refused.part ≡ other.part = one.1 ∙ (ap (λ c. c ∷ []) first ∙ sym two.1) in (
          both_refused base source x y g h refused other,
          same_stretch base g.text_before h.text_before [] [] x.before y.before text_before refl refused.before
              other.before,
          same_stretch base g.text_before h.text_before refused.part other.part x.at y.at text_before part refused.at
              other.at,
        )

    reason_open : IsLeftOpen g.rest x → IsLeftOpen h.rest y → SameReason x y
    reason_open left other =
        let mine = left.says in
        let doc_body = other.says in
        let is : IsOpenerOf base source mine.opener =
        subst (λ o. IfSome o (IsOpenerOf base source)) mine.innermost g.inmost in
        let also : IsOpenerOf base source doc_body.opener =
        subst (λ o. IfSome o (IsOpenerOf base source)) doc_body.innermost h.inmost in
        let a : mine.opener.at.span.lo ≡ base + length is.text_before = ap (λ s. s.lo) is.at.span in
        let b : doc_body.opener.at.span.lo ≡ base + length also.text_before = ap (λ s. s.lo) also.at.span in
        let c : x.before.span.lo ≡ mine.opener.at.span.lo = ap (λ s. s.span.lo) mine.before in
        let d : y.before.span.lo ≡ doc_body.opener.at.span.lo = ap (λ s. s.span.lo) doc_body.before in
        let both = same_size is.text_before also.text_before (is.character ∷ is.after) (also.character ∷ also.after)
        (sym is.whole ∙ also.whole) (omega (arith, a, b, c, d, place base source x y g h)) in
        let rest : is.character ∷ is.after ≡ also.character ∷ also.after = both.1 in
        let first : is.character ≡ also.character = cc in
        let same = same_stretch base is.text_before also.text_before (is.character ∷ []) (also.character ∷ [])
        mine.opener.at
        doc_body.opener.at both.0 (ap (λ v. v ∷ []) first) is.at also.at in (
          mine.reason ∙ sym doc_body.reason,
          mine.before ∙ (ap front_of same ∙ sym doc_body.before),
          mine.at ∙ (same ∙ sym doc_body.at),
        )

-- two explanations have the same reason and the same parts of the text
pub one_explanation : (base : ℕ) (source : List ℕ) (x y : Explained) → IsExplained base source x
    → IsExplained base source y → SameReason x y
one_explanation base source x y g h = elim g.because [
  | inl stuck ↦ elim h.because [
    | inl also ↦ reason_stuck base source x y g h stuck also
    | inr other ↦ elim other [
      | inl refused ↦ absurd (not_stuck_refused base source x y g h stuck refused)
      | inr left ↦ absurd (not_stuck_open base source x y g h stuck left)
    ]
  ]
  | inr mine ↦ elim mine [
    | inl refused ↦ elim h.because [
      | inl stuck ↦ absurd (not_stuck_refused base source y x h g stuck refused)
      | inr other ↦ elim other [
        | inl also ↦ reason_refused base source x y g h refused also
        | inr left ↦ absurd (not_refused_open base source x y g h refused left)
      ]
    ]
    | inr left ↦ elim h.because [
      | inl stuck ↦ absurd (not_stuck_open base source y x h g stuck left)
      | inr other ↦ elim other [
        | inl refused ↦ absurd (not_refused_open base source y x h g refused left)
        | inr also ↦ reason_open base source x y g h left also
      ]
    ]
  ]
]

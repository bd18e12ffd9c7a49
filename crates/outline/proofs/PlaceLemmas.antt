-- Spans in a map that has only one text.
use Rattle.std.proofs.Common.{◌≡◌, ◌∙◌, ◌+◌, ◌-◌, ◌≤◌, ◌&&◌, ◌++◌, ◌⊎◌, inl, inr, ℕ, Bool, true, false, List, [], ◌∷◌}
use Rattle.std.proofs.Common.{refl, sym, ap, ap₂, subst, arith, length, nat_le, zero, suc, if◌then◌else◌, max, min, ◌≢◌}
use Rattle.std.proofs.Math.Bool.{and-false}
use Rattle.std.proofs.Math.Nat.{le-min, max-le, min-eq_left, min-zero}
use Rattle.std.proofs.lemmas.Str.{chars-nil}
use Rattle.std.proofs.lemmas.Bool.{leb-true, le-leb}
use Rattle.std.specs.Str.{chars}
use Rattle.pm_span.specs.CharOffset.{between, line_column}
use Rattle.pm_span.specs.Extent.{Extent, nowhere}
use Rattle.pm_span.specs.Files.{Holds, IsFile, new_map, positions, with_file}
use Rattle.pm_span.specs.Lookup.{AreInOneFile, HasText, StartsAt, covering_span}
use Rattle.pm_span.specs.declared.location.LineColumn.{LineColumn}
use Rattle.messages.specs.Parsed.{first, line_column_of}
use Rattle.outline.specs.Answer.{is_in, place_in, through}

-- a file of the map is the text, or the empty file before it
pub one_of_two : (text source : List ℕ) (lo : ℕ) → IsFile (with_file new_map text) source lo
    → ((source ≡ text) × (lo ≡ 1)) ⊎ ((source ≡ []) × (lo ≡ 0))
one_of_two text source lo file = by_front file.before file.after file.whole file.begins
  where
    by_front : (before after : List (List ℕ)) → [] ∷ text ∷ [] ≡ before ++ (source ∷ after) → lo ≡ positions before
        → ((source ≡ text) × (lo ≡ 1)) ⊎ ((source ≡ []) × (lo ≡ 0))
    by_front [] after whole begins = inr ((cc), begins)
    by_front (a ∷ []) after whole begins =
        let empty : [] ≡ a = cc in
        inl ((cc), begins ∙ ap (λ (x : List ℕ). positions (x ∷ [])) (sym empty))
    by_front (a ∷ b ∷ before) after whole begins = absurd (more before whole)
      where
        more : (before : List (List ℕ)) → [] ∷ text ∷ [] ≡ a ∷ b ∷ before ++ (source ∷ after) → ⊥
        more [] whole = cc
        more (c ∷ before) whole = cc

pub is_text : (text : List ℕ) → IsFile (with_file new_map text) text 1
is_text text = record { before = [] ∷ []; after = []; whole = refl; begins = refl }

pub is_empty : (text : List ℕ) → IsFile (with_file new_map text) [] 0
is_empty text = record { before = []; after = text ∷ []; whole = refl; begins = refl }

-- ---- whether the map holds a span

both_true : (a b : Bool) → (a && b) ≡ true → (a ≡ true) × (b ≡ true)
both_true true true is = (refl, refl)
both_true true false is = cc
both_true false b is = cc

pub in_bounds : (text : List ℕ) (span : Extent) → is_in text span ≡ true
    → (1 ≤ span.lo) × (span.hi ≤ 1 + length text)
in_bounds text span is =
    let both = both_true (nat_le 1 span.lo) (nat_le span.hi (1 + length text)) is in
    (leb-true 1 span.lo both.0, leb-true span.hi (1 + length text) both.1)

pub bounds_in : (text : List ℕ) (span : Extent) → 1 ≤ span.lo → span.hi ≤ 1 + length text → is_in text span ≡ true
bounds_in text span from to =
    ap (λ b. b && nat_le span.hi (1 + length text)) (le-leb 1 span.lo from) ∙ le-leb span.hi (1 + length text) to

-- a span that the map holds is in the text, or in no file
pub held_in : (text : List ℕ) (span : Extent) → Holds (with_file new_map text) span
    → (is_in text span ≡ true) ⊎ ((is_in text span ≡ false) × ((span.lo ≡ 0) × (span.hi ≡ 0)))
held_in text span held = by_file (one_of_two text held.text held.lo held.file)
  where
    by_lo : (lo hi : ℕ) → hi ≡ 0
        → (is_in text (record { lo = lo; hi = hi }) ≡ true)
        ⊎ ((is_in text (record { lo = lo; hi = hi }) ≡ false) × ((lo ≡ 0) × (hi ≡ 0)))
    by_lo zero hi none = inr (refl, (refl, none))
    by_lo (suc lo) hi none =
        inl (bounds_in text (record { lo = suc lo; hi = hi }) (omega arith) (omega arith))

    by_file : ((held.text ≡ text) × (held.lo ≡ 1)) ⊎ ((held.text ≡ []) × (held.lo ≡ 0))
        → (is_in text span ≡ true) ⊎ ((is_in text span ≡ false) × ((span.lo ≡ 0) × (span.hi ≡ 0)))
    by_file (inl (same, one)) =
        let size : length held.text ≡ length text = ap length same in
        inl (bounds_in text span (omega (arith, held.from, one)) (omega (arith, held.to, one, size)))
    by_file (inr (same, none)) =
        let size : length held.text ≡ 0 = ap length same in
        by_lo span.lo span.hi (omega (arith, held.to, none, size))

pub in_held : (text : List ℕ) (span : Extent) → is_in text span ≡ true → Holds (with_file new_map text) span
in_held text span is =
    let bounds = in_bounds text span is in
    record { text = text; lo = 1; file = is_text text; from = bounds.0; to = bounds.1 }

pub false_not : (b : Bool) → (b ≡ true → ⊥) → b ≡ false
false_not true never = absurd (never refl)
false_not false never = refl

pub not_held : (text : List ℕ) (span : Extent) → (Holds (with_file new_map text) span → ⊥) → is_in text span ≡ false
not_held text span never = false_not (is_in text span) (λ is. never (in_held text span is))

-- ---- where a span begins

pub starts_in : (text : List ℕ) (span : Extent) (start : LineColumn) → Holds (with_file new_map text) span
    → StartsAt (with_file new_map text) span start → start ≡ place_in text span
starts_in text span start held starts = by_in (held_in text span held)
  where
    by_in : ((is_in text span ≡ true) ⊎ ((is_in text span ≡ false) × ((span.lo ≡ 0) × (span.hi ≡ 0))))
        → start ≡ place_in text span
    by_in (inl is) =
        let bounds = in_bounds text span is in
        starts text 1 (is_text text) bounds.0 bounds.1
        ∙ ap (λ b. line_column_of text (if b then span.lo else first)) (sym is)
    by_in (inr (is, (lo, hi))) =
        starts [] 0 (is_empty text) (omega arith) (omega (arith, hi))
        ∙ (ap (λ n. line_column [] (n - 0)) lo ∙ ap (λ b. line_column_of text (if b then span.lo else first)) (sym is))

pub elsewhere : (text : List ℕ) (span : Extent) → (Holds (with_file new_map text) span → ⊥)
    → record { line = 1; column = 0 } ≡ place_in text span
elsewhere text span never =
    ap (λ b. line_column_of text (if b then span.lo else first)) (sym (not_held text span never))

-- ---- the text from one span through another

through_if : (text : List ℕ) (from to : Extent) (both : Bool) → (is_in text from && is_in text to) ≡ both
    → through text from to
    ≡ (if both then between text (min from.lo to.lo - first) (max from.hi to.hi - first) else [])
through_if text from to both is =
    ap (λ b. if b then between text (min from.lo to.lo - first) (max from.hi to.hi - first) else []) is

-- both spans are in the text, or in no file
one_file : (text : List ℕ) (from to : Extent) → AreInOneFile (with_file new_map text) from to
    → ((is_in text from ≡ true) × (is_in text to ≡ true))
    ⊎ (((is_in text from && is_in text to) ≡ false) × (covering_span from to ≡ nowhere))
one_file text from to one = by_file (one_of_two text one.text one.lo one.file)
  where
    by_lo : (a b c d : ℕ) → c ≡ 0 → d ≡ 0
        → ((is_in text (record { lo = a; hi = c }) ≡ true) × (is_in text (record { lo = b; hi = d }) ≡ true))
        ⊎ (((is_in text (record { lo = a; hi = c }) && is_in text (record { lo = b; hi = d })) ≡ false)
        × (covering_span (record { lo = a; hi = c }) (record { lo = b; hi = d }) ≡ nowhere))
    by_lo zero b c d none also =
        let least : min 0 b ≡ 0 = min-eq_left (omega arith) in inr (
          refl,
          ap₂ (λ (x y : ℕ). covering_span (record { lo = 0; hi = x }) (record { lo = b; hi = y })) none also
              ∙ ap (λ (n : ℕ). record { lo = n; hi = 0 }) least,
        )
    by_lo (suc a) zero c d none also = inr (
      and-false (is_in text (record { lo = suc a; hi = c })),
      ap₂ (λ (x y : ℕ). covering_span (record { lo = suc a; hi = x }) (record { lo = 0; hi = y })) none also
          ∙ ap (λ (n : ℕ). record { lo = n; hi = 0 }) (min-zero (suc a)),
    )
    by_lo (suc a) (suc b) c d none also = inl (
      bounds_in text (record { lo = suc a; hi = c }) (omega arith) (omega arith),
      bounds_in text (record { lo = suc b; hi = d }) (omega arith) (omega arith),
    )

    by_file : ((one.text ≡ text) × (one.lo ≡ 1)) ⊎ ((one.text ≡ []) × (one.lo ≡ 0))
        → ((is_in text from ≡ true) × (is_in text to ≡ true))
        ⊎ (((is_in text from && is_in text to) ≡ false) × (covering_span from to ≡ nowhere))
    by_file (inl (same, first_one)) =
        let size : length one.text ≡ length text = ap length same in inl (
          bounds_in text from (omega (arith, one.first_from, first_one))
              (omega (arith, one.first_to, first_one, size)),
          bounds_in text to (omega (arith, one.second_from, first_one))
              (omega (arith, one.second_to, first_one, size)),
        )
    by_file (inr (same, none)) =
        let size : length one.text ≡ 0 = ap length same in
        by_lo from.lo to.lo from.hi to.hi (omega (arith, one.first_to, none, size))
        (omega (arith, one.second_to, none, size))

in_one : (text : List ℕ) (from to : Extent) → is_in text from ≡ true → is_in text to ≡ true
    → AreInOneFile (with_file new_map text) from to
in_one text from to is also =
    let one = in_bounds text from is in
    let other = in_bounds text to also in
    record {
      text = text;
      lo = 1;
      file = is_text text;
      first_from = one.0;
      first_to = one.1;
      second_from = other.0;
      second_to = other.1;
    }

-- the first span is in no file
pub through_unheld : (text : List ℕ) (from to : Extent) → (Holds (with_file new_map text) from → ⊥)
    → chars [] ≡ through text from to
through_unheld text from to never =
    chars-nil
    ∙ sym (through_if text from to false (ap (λ b. b && is_in text to) (not_held text from never)))

-- the two spans cannot be joined
pub through_apart : (text : List ℕ) (from to : Extent) → (AreInOneFile (with_file new_map text) from to → ⊥)
    → chars [] ≡ through text from to
through_apart text from to never =
    chars-nil
    ∙ sym (through_if text from to false (false_not (is_in text from && is_in text to) (λ both.
    let are = both_true (is_in text from) (is_in text to) both in
    never (in_one text from to are.0 are.1))))

-- the two spans join to a span in no file
pub through_nowhere : (text : List ℕ) (from to span : Extent) → AreInOneFile (with_file new_map text) from to
    → span ≡ covering_span from to → span ≡ nowhere → chars [] ≡ through text from to
through_nowhere text from to span one joins none = by_file (one_file text from to one)
  where
    by_file : (((is_in text from ≡ true) × (is_in text to ≡ true))
        ⊎ (((is_in text from && is_in text to) ≡ false) × (covering_span from to ≡ nowhere)))
        → chars [] ≡ through text from to
    by_file (inl (is, also)) =
        let least : 1 ≤ min from.lo to.lo = le-min (in_bounds text from is).0 (in_bounds text to also).0 in
        let zeroth : min from.lo to.lo ≡ 0 = ap (λ (e : Extent). e.lo) (sym joins ∙ none) in
        absurd (omega (arith, least, zeroth))
    by_file (inr (is, nil)) = chars-nil ∙ sym (through_if text from to false is)

-- the two spans join to a span in the text
pub through_some : (text source : List ℕ) (from to span : Extent) → AreInOneFile (with_file new_map text) from to
    → span ≡ covering_span from to → span ≢ nowhere → HasText (with_file new_map text) span (chars source)
    → chars source ≡ through text from to
through_some text source from to span one joins some has = by_file (one_file text from to one)
  where
    by_file : (((is_in text from ≡ true) × (is_in text to ≡ true))
        ⊎ (((is_in text from && is_in text to) ≡ false) × (covering_span from to ≡ nowhere)))
        → chars source ≡ through text from to
    by_file (inl (is, also)) =
        let one_bounds = in_bounds text from is in
        let other_bounds = in_bounds text to also in
        let has_joined : HasText (with_file new_map text) (covering_span from to) (chars source) =
        subst (λ (e : Extent). HasText (with_file new_map text) e (chars source)) joins has in
        has_joined text 1 (is_text text) (le-min one_bounds.0 other_bounds.0) (max-le one_bounds.1 other_bounds.1)
        ∙ sym (through_if text from to true (ap₂ (λ (a b : Bool). a && b) is also))
    by_file (inr (is, nil)) = absurd (some (joins ∙ nil))

-- The items of a text are those of one step and those of the text after it.
use Rattle.std.proofs.Common.{◌≡◌, ℕ, zero, suc, ◌<◌, ◌≤◌, List, [], ◌∷◌, ◌++◌, Option, Some, None, true, false, length}
use Rattle.std.proofs.Common.{refl, sym, ap, ap₂, ◌∙◌, arith}
use Rattle.std.specs.Prelude.{IfNone, is_some}
use Rattle.std.specs.Iterator.{YieldsFirst}
use Rattle.std.proofs.lemmas.Bool.{both_ways}
use Rattle.std.specs.declared.ops.Range.{Range}
use Rattle.literal_escaper.specs.declared.cooked.Cooked.{Cooked}
use Rattle.literal_escaper.specs.declared.content_cursor.ContentCursor.{ContentCursor}
use Rattle.literal_escaper.specs.Items.{Item, front, items_from, items_within}
use Rattle.literal_escaper.specs.Unescaping.{GivesFront, cooked_left, front_items, text_at, white_items}
use Rattle.literal_escaper.specs.Kind.{Kind}
use Rattle.literal_escaper.proofs.FrontLemmas.{front_shrinks}

-- the empty text has no items
pub items_none : {U : Type 0} (kind : Kind U) (end : ℕ) (n : ℕ) → items_within kind end n [] ≡ []
unfolding items_within front
items_none kind end zero = refl
items_none kind end (suc n) = items_none kind end n

within_same : {U : Type 0} (kind : Kind U) (end n m : ℕ) (text : List ℕ) → length text ≤ n → length text ≤ m
    → items_within kind end n text ≡ items_within kind end m text
unfolding items_within
within_same kind end zero m [] h k = sym (items_none kind end m)
within_same kind end zero m (c ∷ text) h k = absurd (omega arith)
within_same kind end (suc n) zero [] h k = items_none kind end (suc n)
within_same kind end (suc n) zero (c ∷ text) h k = absurd (omega arith)
within_same kind end (suc n) (suc m) text h k =
    let less = front_shrinks kind end text in
    ap (λ items. (front kind end text).items ++ items)
    (within_same kind end n m (front kind end text).rest (omega arith) (omega arith))

-- the items of a text are those of one step and those of the text after it
pub items_past : {U : Type 0} (kind : Kind U) (end : ℕ) (text : List ℕ)
    → items_from kind end text ≡ (front kind end text).items ++ items_from kind end (front kind end text).rest
unfolding items_within front
items_past kind end [] = refl
items_past kind end (c ∷ text) =
    let less = front_shrinks kind end (c ∷ text) in
    ap (λ items. (front kind end (c ∷ text)).items ++ items)
    (within_same kind end (length text) (length (front kind end (c ∷ text)).rest)
    (front kind end (c ∷ text)).rest (omega arith) (omega arith))

-- the items from a cursor on are what was read there and the items from the cursor after it on
pub items_step : {U : Type 0} (kind : Kind U) (at after : ContentCursor) (item : Option (Item U))
    (warning : Option (Range ℕ))
    → GivesFront (front kind at.end (text_at at)) at item warning after
    → items_from kind at.end (text_at at) ≡ front_items item warning ++ items_from kind after.end (text_at after)
items_step kind at after item warning given =
    items_past kind at.end (text_at at)
    ∙ ap₂ (λ xs ys. xs ++ ys) (sym given.0) (ap₂ (λ end text. items_from kind end text) (sym given.2) (sym given.1))

-- the text at the cursor after what was read is shorter
pub step_shorter : {U : Type 0} (kind : Kind U) (at after : ContentCursor) (item : Option (Item U))
    (warning : Option (Range ℕ))
    → GivesFront (front kind at.end (text_at at)) at item warning after → 0 < length (text_at at)
    → length (text_at after) < length (text_at at)
step_shorter kind at after item warning given more =
    let less = front_shrinks kind at.end (text_at at) in
    let is = ap length given.1 in
    omega arith

none_from : {A : Type 0} (x : Option A) → is_some x ≡ false → x ≡ None
none_from None e = refl
none_from (Some x) e = absurd (both_ways true e refl)

-- if no item was read, the items from both cursors on are the same
pub step_none : {U : Type 0} (kind : Kind U) (at after : ContentCursor) (item : Option (Item U))
    (warning : Option (Range ℕ))
    → GivesFront (front kind at.end (text_at at)) at item warning after → is_some item ≡ false
    → items_from kind at.end (text_at at) ≡ items_from kind after.end (text_at after)
step_none kind at after item warning given none =
    items_step kind at after item warning given
    ∙ ap (λ x. front_items x warning ++ items_from kind after.end (text_at after)) (none_from item none)

-- the end of a content has no items
pub items_end : {U : Type 0} (kind : Kind U) (end : ℕ) (text : List ℕ) → text ≡ [] → items_from kind end text ≡ []
items_end kind end text e = ap (items_from kind end) e ∙ items_none kind end 0

-- a call that reads up to the next item returns it, and leaves the items after it
pub next_left : {U : Type 0} (kind : Kind U) (old : Cooked) (item : Option (Item U)) (warning : Option (Range ℕ))
    (after : ContentCursor)
    → old.warning ≡ None
    → items_from kind old.cursor.end (text_at old.cursor)
    ≡ front_items item warning ++ items_from kind after.end (text_at after)
    → IfNone item ((warning ≡ None) × (text_at after ≡ []))
    → YieldsFirst (cooked_left kind) old item (record { cursor = after; warning = warning })
next_left kind old None warning after plain left none =
    let nothing = items_end kind after.end (text_at after) none.1 in (
      ap (λ w. white_items w ++ items_from kind old.cursor.end (text_at old.cursor)) plain ∙ (left ∙ nothing),
      ap (λ w. white_items w ++ items_from kind after.end (text_at after)) none.0 ∙ nothing,
    )
next_left kind old (Some item) warning after plain left none =
    ap (λ w. white_items w ++ items_from kind old.cursor.end (text_at old.cursor)) plain ∙ left

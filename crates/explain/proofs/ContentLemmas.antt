-- The loop over the content of a literal.
use Rattle.std.proofs.Common.{◌≡◌, ℕ, ◌+◌, ◌-◌, ◌<◌, ◌≤◌, true, false, not, ◌&&◌, ◌==◌, List, [], ◌∷◌, ◌++◌}
use Rattle.std.proofs.Common.{codes, drop, take, length, Some, None, Result, Ok, Err, inl, inr, refl, sym, ap, ap₂}
use Rattle.std.proofs.Common.{◌∙◌, subst, append_assoc, arith, eqb-true, length-append}
use Rattle.std.specs.Prelude.{cond}
use Rattle.std.specs.List.{list_all}
use Rattle.std.specs.Str.{IsCharBoundary, chars, encode_utf8_all}
use Rattle.std.specs.declared.ops.Range.{Range}
use Rattle.std.proofs.lemmas.Bool.{and_from, and_parts, both_ways, cond_both, cond-false, false_from_ne_true, lt-ltb}
use Rattle.std.proofs.lemmas.Bool.{or_from, or_parts}
use Rattle.std.proofs.lemmas.Str.{IsUtf8-had, encodes-append}
use Rattle.lexical.specs.Character.{double_quote}
use Rattle.lexical.specs.Quoted.{unit}
use Rattle.lexical.specs.Rule.{Stands, find}
use Rattle.lexical.specs.RuleMatch.{Passes}
use Rattle.lexical.specs.Text.{begins_any, begins_with}
use Rattle.lexical.specs.declared.cursor.TextCursor.{TextCursor}
use Rattle.lexical.specs.declared.quoted.StringKind.{StringKind}
use Rattle.lexical.specs.declared.quoted.StringKind.TheVariants as kinds
use Rattle.lexical.proofs.QuotedFinderLemmas.{clear_body}
use Rattle.lexical.proofs.RuleLemmas.{exact}
use Rattle.lexical.proofs.RuleSteps.{find_either, lacks_text, passes_piece}
use Rattle.lexical.proofs.TextLemmas.{ascii_bytes, begins_more, front_len, seam_boundary, seam_drop, seam_take}
use Rattle.literal_escaper.specs.declared.errors.EscapeError.{EscapeError}
use Rattle.literal_escaper.specs.declared.errors.EscapeError.TheVariants as errors
use Rattle.literal_escaper.specs.Escape.{Read, fault}
use Rattle.literal_escaper.specs.Items.{Item, front, items, items_from, one_item, unit_front}
use Rattle.literal_escaper.specs.Kind.{Kind, byte_kind, c_kind, string_kind}
use Rattle.literal_escaper.specs.Text.{bytes, first_is}
use Rattle.literal_escaper.proofs.FrontLemmas.{unit_end}
use Rattle.literal_escaper.proofs.ItemLemmas.{items_end, items_past}
use Rattle.explain.specs.Content.{GivesFault, StringFault, line_ends}
use Rattle.explain.specs.Walk.{GivesFront, IsFaultAt, IsFront, IsInside, IsLeft, IsPast, error_in, line_end}
use Rattle.explain.specs.declared.contents.Front.{Front}
use Rattle.explain.proofs.NumberLemmas.{or_none}
use Rattle.explain.proofs.EscapeLemmas.{Allows, IsRead, byte_allows, c_allows, escape_is, string_allows}

-- ---- the content in bytes

module _ (at end : TextCursor) (quote : ℕ) (left : List ℕ) (low : quote < 128) (is : IsLeft quote left at end) where
  pub content_size : length (encode_utf8_all left) + 1 + length end.rest.now ≡ length at.rest.now
  content_size =
      omega (
        arith,
        front_len at.rest.now end.rest.now (left ++ quote ∷ []) (IsUtf8-had _ at.text) (IsUtf8-had _ end.text)
            (is ∙ sym (append_assoc left (quote ∷ []) (chars end.rest.now))),
        ap length (encodes-append left (quote ∷ [])),
        length-append (encode_utf8_all left) (encode_utf8_all (quote ∷ [])),
        ascii_bytes (quote ∷ []) (and_from _ _ (lt-ltb quote 128 low) refl),
      )

  size_is : length at.rest.now - length end.rest.now - 1 ≡ length (encode_utf8_all left)
  size_is = omega (arith, content_size)

  pub content_boundary : IsCharBoundary at.rest.now (length at.rest.now - length end.rest.now - 1)
  content_boundary = seam_boundary at.rest.now left (quote ∷ chars end.rest.now) _ (IsUtf8-had _ at.text) is size_is

  pub content_chars : chars (take (length at.rest.now - length end.rest.now - 1) at.rest.now) ≡ left
  content_chars = seam_take at.rest.now left (quote ∷ chars end.rest.now) _ (IsUtf8-had _ at.text) is size_is

-- ---- the first item that the escaper reads

bytes-append : (p r : List ℕ) → bytes (p ++ r) ≡ bytes p + bytes r
bytes-append p r = ap length (encodes-append p r) ∙ length-append (encode_utf8_all p) (encode_utf8_all r)

no_line : (c : ℕ) (text : List ℕ) → begins_with (codes "\\\n") (c ∷ text) ≡ false
    → ((c == 92) && first_is 10 text) ≡ false
no_line c [] e = grind (arith, e)
no_line c (d ∷ text) e = grind (arith, e)

one_front : {U : Type 0} (kind : Kind U) (end c : ℕ) (text : List ℕ) → begins_with (codes "\\\n") (c ∷ text) ≡ false
    → front kind end (c ∷ text) ≡ one_item end (c ∷ text) (unit_front kind c text)
unfolding front
one_front kind end c text e = cond-false _ _ _ (no_line c text e)

-- the first items of equal lists are equal
head_of : {A : Type 0} (a b : A) (xs ys : List A) → ◌≡◌ {A = List A} (a ∷ xs) (b ∷ ys) → a ≡ b
head_of a b xs ys e = cc

module _ {U : Type 0} (kind : Kind U) where
  items_are : (c : ℕ) (text : List ℕ) → begins_with (codes "\\\n") (c ∷ text) ≡ false
      → (more : List (Item U)) × (items kind (c ∷ text)
      ≡ (
        record {
          start = bytes (c ∷ text) - bytes (c ∷ text);
          end = bytes (c ∷ text) - bytes (unit_front kind c text).rest;
        },
        (unit_front kind c text).unit,
      ) ∷ more)
  items_are c text e = (
    _,
    items_past kind (bytes (c ∷ text)) (c ∷ text)
        ∙ ap (λ x. x.items ++ items_from kind (bytes (c ∷ text)) x.rest) (one_front kind (bytes (c ∷ text)) c text e),
  )

  pub front_is : (text : List ℕ) (range : Range ℕ) (read : Result U EscapeError) (more : List (Item U)) (x : Front)
      → items kind text ≡ (range, read) ∷ more → begins_with (codes "\\\n") text ≡ false → x.size ≡ range.end
      → x.error ≡ error_in read → GivesFront kind text x
  front_is [] range read more x e apart size error =
      let clash : ◌≡◌ {A = List (Item U)} [] ((range, read) ∷ more) = sym (items_end kind 0 [] refl) ∙ e in absurd (cc)
  front_is (c ∷ text) range read more x e apart size error =
      let are = items_are c text apart in
      let same = head_of _ _ _ _ (sym are.1 ∙ e) in (
        size ∙ sym (ap (λ i. i.0.end) same),
        error ∙ sym (ap (λ i. error_in i.1) same),
      )

  pub front_none : (text : List ℕ) → items kind text ≡ [] → begins_with (codes "\\\n") text ≡ false → text ≡ []
  front_none [] e apart = refl
  front_none (c ∷ text) e apart =
      let are = items_are c text apart in
      let clash : ◌≡◌ {A = List (Item U)} (_ ∷ are.0) [] = sym are.1 ∙ e in
      absurd (cc)

-- ---- a unit

ok_of : {U : Type 0} (o : Result U EscapeError) → error_in o ≡ None → (u : U) × (o ≡ Ok u)
ok_of (Ok u) e = (u, refl)
ok_of (Err fault) e = absurd (cc)

err_of : {U : Type 0} (o : Result U EscapeError) (e : EscapeError) → error_in o ≡ Some e → o ≡ Err e
err_of (Ok u) e is = absurd (cc)
err_of (Err fault) e is = ap Err cc

module _ {U : Type 0} (kind : Kind U) (strings : StringKind) (are : Allows kind strings) (more : List ℕ) (u : U) where
  abbrev IsUnit : List ℕ → Read U → Type 0
  IsUnit text read = read.unit ≡ Ok u → IsRead (unit strings) text more read

  plain_is : (c : ℕ) (text : List ℕ) → (c == 92) ≡ false
      → IsUnit (c ∷ text) (record {
        unit = cond (c == 34) (Err errors.EscapeOnlyChar)
            (cond (c == 13) (Err errors.BareCarriageReturn) (kind.of_char c));
        rest = text;
      })
  plain_is c text backslash =
      cond_both (c == 34) _ _ (λ o. IsUnit (c ∷ text) (record { unit = o; rest = text }))
      (λ e h. absurd (cc))
      (λ quote. cond_both (c == 13) _ _ (λ o. IsUnit (c ∷ text) (record { unit = o; rest = text }))
      (λ e h. absurd (cc))
      (λ return h. record {
        part = c ∷ [];
        whole = refl;
        stands = inl (c, refl, are.by_char c u h quote backslash return);
      }))

  pub unit_is : (c : ℕ) (text : List ℕ) → IsUnit (c ∷ text) (unit_front kind c text)
  unit_is c text = cond_both (c == 92) _ _ (IsUnit (c ∷ text))
      (λ e h.
      let is = escape_is kind strings are more u text h in
      record {
        part = 92 ∷ is.part;
        whole = ap₂ (λ d t. d ∷ t) (eqb-true c 92 e) is.whole;
        stands = inr (inr (record {
          front = codes "\\";
          back = is.part;
          whole = refl;
          first = refl;
          second = inr is.stands;
        }));
      })
      (λ e. plain_is c text e)

-- ---- one step

-- a cursor after what was read, `size` bytes further
pub record IsAfter (at after : TextCursor) (size : ℕ) : Type 0 where
  pub rest : after.rest.now ≡ drop size at.rest.now
  pub count : after.chars_before ≡ at.chars_before + length (chars (take size at.rest.now))

pub past_read : (at after : TextCursor) (size : ℕ) (part rest : List ℕ) → IsAfter at after size
    → chars at.rest.now ≡ part ++ rest → size ≡ bytes part
    → (chars after.rest.now ≡ rest) × (after.chars_before ≡ at.chars_before + length part)
past_read at after size part rest is whole e =
    let utf8 = IsUtf8-had at.rest.now at.text in (
      ap chars is.rest ∙ seam_drop at.rest.now part rest size utf8 whole e,
      is.count ∙ ap (λ n. at.chars_before + length n) (seam_take at.rest.now part rest size utf8 whole e),
    )

pub size_of : (text part rest : List ℕ) → text ≡ part ++ rest → bytes text - bytes rest ≡ bytes part
size_of text part rest e = omega (arith, ap bytes e, bytes-append part rest)

unit_found : (kind : StringKind) (at after : TextCursor) (part : List ℕ)
    → chars at.rest.now ≡ part ++ chars after.rest.now
    → after.chars_before ≡ at.chars_before + length part → Stands (unit kind) part (chars after.rest.now)
    → Passes (unit kind) at after
unit_found kind at after part whole count stands = record {
  front = part;
  found = ap (find (unit kind)) whole
      ∙ (exact (unit kind) (clear_body kind).0).complete part (chars after.rest.now) stands;
  count = count;
}

module _ (at after end : TextCursor) (x : Front) (is : IsAfter at after x.size) where
  module _ {U : Type 0} (kind : Kind U) (strings : StringKind) (are : Allows kind strings) where
    unit_by : (left : List ℕ) → IsLeft double_quote left at end → GivesFront kind left x → x.error ≡ None
        → Passes (unit strings) at after × IsInside double_quote after end
    unit_by [] whole given none = absurd given
    unit_by (c ∷ text) whole given none =
        let more : List ℕ = 34 ∷ chars end.rest.now in
        let ok = ok_of (unit_front kind c text).unit (sym given.1 ∙ none) in
        let read = unit_is kind strings are more ok.0 c text ok.1 in
        let rest = (unit_front kind c text).rest in
        let split : chars at.rest.now ≡ read.part ++ (rest ++ more) =
        whole ∙ (ap (λ t. t ++ more) read.whole ∙ append_assoc read.part rest more) in
        let past = past_read at after x.size read.part (rest ++ more) is split
        (given.0 ∙ size_of (c ∷ text) read.part rest read.whole) in (
          unit_found strings at after read.part (split ∙ ap (λ t. read.part ++ t) (sym past.0)) past.1
              (subst (Stands (unit strings) read.part) (sym past.0) read.stands),
          (rest, past.0),
        )

    fault_by : (e : EscapeError) (left : List ℕ) → IsLeft double_quote left at end → GivesFront kind left x
        → x.error ≡ Some e
        → (past : IsPast at after) × (rest : List ℕ) × (1 ≤ length past.part)
        × IsLeft double_quote rest after end × GivesFault kind e (past.part ++ rest) rest
    fault_by e [] whole given some = absurd given
    fault_by e (c ∷ text) whole given some =
        let more : List ℕ = 34 ∷ chars end.rest.now in
        let rest = (unit_front kind c text).rest in
        let back = unit_end kind c text in
        let part : List ℕ = c ∷ back.0 in
        let same : c ∷ text ≡ part ++ rest = ap (λ t. c ∷ t) back.1 in
        let split : chars at.rest.now ≡ part ++ (rest ++ more) =
        whole ∙ (ap (λ t. t ++ more) same ∙ append_assoc part rest more) in
        let past = past_read at after x.size part (rest ++ more) is split
        (given.0 ∙ size_of (c ∷ text) part rest same) in (
          record { part = part; whole = split ∙ ap (λ t. part ++ t) (sym past.0); count = past.1 },
          rest,
          omega arith,
          past.0,
          subst (λ t. GivesFault kind e t rest) same
              (ap (λ u. record { unit = u; rest = rest })
              (err_of (unit_front kind c text).unit e (sym given.1 ∙ some))),
        )

  pub step_unit : (kind : StringKind) (left : List ℕ) → IsLeft double_quote left at end → IsFront kind left x
      → x.error ≡ None → Passes (unit kind) at after × IsInside double_quote after end
  step_unit kinds.Plain left whole given none = unit_by string_kind kinds.Plain string_allows left whole given none
  step_unit kinds.Byte left whole given none = unit_by byte_kind kinds.Byte byte_allows left whole given none
  step_unit kinds.C left whole given none = unit_by c_kind kinds.C c_allows left whole given none

  fault_at : (kind : StringKind) (e : EscapeError) (left : List ℕ) → IsLeft double_quote left at end
      → IsFront kind left x → x.error ≡ Some e
      → (past : IsPast at after) × (rest : List ℕ) × (1 ≤ length past.part)
      × IsLeft double_quote rest after end × StringFault kind e (past.part ++ rest) rest
  fault_at kinds.Plain e left whole given some = fault_by string_kind kinds.Plain string_allows e left whole given some
  fault_at kinds.Byte e left whole given some = fault_by byte_kind kinds.Byte byte_allows e left whole given some
  fault_at kinds.C e left whole given some = fault_by c_kind kinds.C c_allows e left whole given some

  pub step_fault : (kind : StringKind) (e : EscapeError) (left : List ℕ) → IsLeft double_quote left at end
      → IsFront kind left x → x.error ≡ Some e → begins_any line_ends (chars at.rest.now) ≡ false
      → IsFaultAt kind e at after end
  step_fault kind e left whole given some apart =
      let is = fault_at kind e left whole given some in record {
        past = is.0;
        some = is.2;
        left = is.1;
        closes = is.3;
        apart = apart;
        gives = is.4;
      }

-- ---- line ends

-- no line end is at the start of the text if the rule `line_end` finds none
pub no_line_end : (text : List ℕ) → find line_end text ≡ None → begins_any line_ends text ≡ false
no_line_end text none =
    let first = or_none _ _ (sym (find_either _ _ text) ∙ none) in
    let others = or_none _ _ (sym (find_either _ _ text) ∙ first.1) in
    or_from _ _ (lacks_text _ _ first.0) (or_from _ _ (lacks_text _ _ others.0)
    (or_from _ _ (lacks_text _ _ others.1) refl))

-- no line end is at the start of the content alone
pub no_line_inside : (left tail : List ℕ) → begins_any line_ends (left ++ tail) ≡ false
    → begins_with (codes "\\\n") left ≡ false
no_line_inside left tail none = false_from_ne_true _ (λ is.
    both_ways _ (or_parts _ _ (or_parts _ _ none).1).0 (begins_more (codes "\\\n") left tail is))

-- text without a quote is in the content, which ends at the first quote
pub inside_of : (front more left tail : List ℕ) → list_all (λ c. not (34 == c)) front ≡ true
    → front ++ more ≡ left ++ (34 ∷ tail) → (rest : List ℕ) × (more ≡ rest ++ (34 ∷ tail))
inside_of [] more left tail none e = (left, e)
inside_of (c ∷ front) more [] tail none e =
    let same : c ≡ 34 = cc in
    absurd (both_ways (not (34 == c)) (ap (λ d. not (34 == d)) same) (and_parts _ _ none).0)
inside_of (c ∷ front) more (d ∷ left) tail none e =
    let rest : front ++ more ≡ left ++ (34 ∷ tail) = cc in
    inside_of front more left tail (and_parts _ _ none).1 rest

line_plain : (front more : List ℕ) → Stands line_end front more → list_all (λ c. not (34 == c)) front ≡ true
line_plain front more (inl return) = ap (list_all (λ c. not (34 == c))) return
line_plain front more (inr (inl feed)) = ap (list_all (λ c. not (34 == c))) feed
line_plain front more (inr (inr return)) = ap (list_all (λ c. not (34 == c))) return

line_unit : (kind : StringKind) (front more : List ℕ) → Stands line_end front more → Stands (unit kind) front more
line_unit kind front more (inl return) = inr (inl return)
line_unit kind front more (inr (inl feed)) = inr (inr (record {
  front = codes "\\";
  back = codes "\n";
  whole = feed;
  first = refl;
  second = inl (inl refl);
}))
line_unit kind front more (inr (inr return)) = inr (inr (record {
  front = codes "\\";
  back = codes "\r\n";
  whole = return;
  first = refl;
  second = inl (inr refl);
}))

pub step_line : (kind : StringKind) (at after end : TextCursor) → Passes line_end at after
    → IsInside double_quote at end
    → Passes (unit kind) at after × IsInside double_quote after end
step_line kind at after end h inside =
    let is = passes_piece line_end (assumption) at after h in (
      unit_found kind at after h.front is.0 h.count (line_unit kind h.front (chars after.rest.now) is.1),
      inside_of h.front (chars after.rest.now) inside.0 (chars end.rest.now)
          (line_plain h.front (chars after.rest.now) is.1) (sym is.0 ∙ inside.1),
    )

-- ---- what is read ends between two characters

module _ (at end : TextCursor) (x : Front) where
  boundary_by : {U : Type 0} (kind : Kind U) (left : List ℕ) → IsLeft double_quote left at end → GivesFront kind left x
      → IsCharBoundary at.rest.now x.size
  boundary_by kind [] whole given = absurd given
  boundary_by kind (c ∷ text) whole given =
      let more : List ℕ = 34 ∷ chars end.rest.now in
      let rest = (unit_front kind c text).rest in
      let back = unit_end kind c text in
      let part : List ℕ = c ∷ back.0 in
      let same : c ∷ text ≡ part ++ rest = ap (λ t. c ∷ t) back.1 in
      seam_boundary at.rest.now part (rest ++ more) x.size (IsUtf8-had at.rest.now at.text)
      (whole ∙ (ap (λ t. t ++ more) same ∙ append_assoc part rest more))
      (given.0 ∙ size_of (c ∷ text) part rest same)

  pub front_boundary : (kind : StringKind) (left : List ℕ) → IsLeft double_quote left at end → IsFront kind left x
      → IsCharBoundary at.rest.now x.size
  front_boundary kinds.Plain left whole given = boundary_by string_kind left whole given
  front_boundary kinds.Byte left whole given = boundary_by byte_kind left whole given
  front_boundary kinds.C left whole given = boundary_by c_kind left whole given

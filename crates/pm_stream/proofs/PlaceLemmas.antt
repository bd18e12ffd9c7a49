-- Where the trees of a text begin and end: what was placed, after one more step.
use Rattle.std.proofs.Common.{◌≡◌, ℕ, ◌+◌, ◌-◌, ◌<◌, ◌≤◌, Bool, true, false, cond, not, List, [], ◌∷◌, ◌++◌}
use Rattle.std.proofs.Common.{length, take, map, reverse, refl, sym, ap, ap₂, ◌∙◌, subst, arith, append_assoc}
use Rattle.std.proofs.Common.{◌==◌, eqb-true, true≢false}
use Rattle.std.proofs.Common.{append-nil, length-append}
use Rattle.std.proofs.Math.ListN.{set}
use Rattle.std.proofs.Math.Seq.{set-append_seam, take-append_seam}
use Rattle.std.proofs.lemmas.List.{map-append, reverse-append}
use Rattle.std.proofs.lemmas.List.Sums.{sum_by-append, sum_by-cons, take_while-cons}
use Rattle.std.specs.Prelude.{count_by, take_while}
use Rattle.std.specs.Str.{chars, IsUtf8, IsCharBoundary, encode_utf8_all}
use Rattle.lexical.specs.Class.{is_ident_continue}
use Rattle.lexical.specs.Identifier.{Identifier}
use Rattle.lexical.specs.Mark.{is_mark}
use Rattle.lexical.specs.declared.piece.PieceKind.TheVariants as pieces
use Rattle.lexical.proofs.ClassLemmas.{ident_continue_ascii}
use Rattle.lexical.proofs.PieceFacts.{stands_mark, start_continues}
use Rattle.grammar_laws.proofs.NameLemmas.{identifier_alone}
use Rattle.pm_span.specs.Line.{is_one_line}
use Rattle.lexical.specs.Found.{kind_of}
use Rattle.lexical.specs.WhiteRun.{IsPastWhite}
use Rattle.lexical.specs.Token.{raw_front}
use Rattle.lexical.specs.declared.piece.PieceKind.{PieceKind}
use Rattle.lexical.proofs.TextLemmas.{all_pass, encode_all_ascii}
use Rattle.lexical.specs.Ascii.{all_ascii}
use Rattle.lexical.specs.WhiteRun.{ascii_white}
use Rattle.std.specs.List.{list_all}
use Rattle.std.proofs.lemmas.Bool.{and_from, and_parts, false_from_ne_true, not-true}
use Rattle.std.proofs.lemmas.List.Folds.{list_all-append}
use Rattle.pm_span.specs.CharOffset.{byte_offset, is_line_feed}
use Rattle.pm_span.proofs.SeamLemmas.{boundary_at, front_at}
use Rattle.pm_token.specs.declared.delimiters.Delimiter.{Delimiter}
use Rattle.pm_token.specs.declared.delimiters.Delimiter.TheVariants.{None}
use Rattle.pm_stream.specs.Delimited.{opening, closing}
use Rattle.pm_stream.specs.Events.{Opens, Closes, events_onto}
use Rattle.pm_stream.specs.Forest.{Forest, nil, group, flat_onto, flattening, chain}
use Rattle.pm_stream.specs.InOrder.{in_order}
use Rattle.pm_stream.specs.Parsing.{ParsesTo}
use Rattle.pm_stream.specs.OpenGroups.{Opened, unclosed_onto}
use Rattle.pm_stream.specs.Places.{ArePlaced, tree_places, moved_past, next_place, place_of, tree_place}
use Rattle.pm_stream.specs.PlacerState.{Places, doc_places, listed_open, open_groups, opener, origin}
use Rattle.pm_stream.specs.Reading.{ReadsAll}
use Rattle.pm_stream.specs.Taken.{HasTaken, IsLexed, IsTakenTo, Taken, nothing, past, position}
use Rattle.pm_stream.specs.declared.placing.OpenGroup.{OpenGroup}
use Rattle.pm_stream.specs.declared.placing.Place.{Place}
use Rattle.pm_stream.specs.declared.placing.PlacedTree.{PlacedTree}
use Rattle.pm_stream.specs.declared.placing.Placer.{Placer}
use Rattle.pm_stream.specs.declared.placing.TreeKind.TheVariants as kinds
use Rattle.pm_stream.specs.declared.reading.Lexed.{Lexed}
use Rattle.pm_stream.proofs.EventLemmas.{unclosed-append, unclosed-joined}
use Rattle.pm_stream.proofs.InOrderLemmas.{in_order-append, in_order-joined}
use Rattle.pm_stream.proofs.PieceLemmas.{stands_as}
use Rattle.pm_stream.proofs.ReadingLemmas.{IsToken, token_events, token_trees}

-- ---- lines and columns

-- the line and column at the end of a text
abbrev end_place : List ℕ → Place
end_place front = record {
  line = 1 + count_by is_line_feed front;
  column = length (take_while (λ c. not (is_line_feed c)) (reverse front));
}

end_place-push : (front : List ℕ) (c : ℕ) → next_place (end_place front) c ≡ end_place (front ++ c ∷ [])
end_place-push front c =
    let none : cond (is_line_feed c) 1 0 + 0 ≡ cond (is_line_feed c) 1 0 = omega arith in
    let more : count_by is_line_feed (front ++ c ∷ []) ≡ count_by is_line_feed front + cond (is_line_feed c) 1 0 =
    sum_by-append (λ x. cond (is_line_feed x) 1 0) front (c ∷ [])
    ∙ ap (λ n. count_by is_line_feed front + n) (sum_by-cons (λ x. cond (is_line_feed x) 1 0) c [] ∙ none) in
    let last : take_while (λ c. not (is_line_feed c)) (reverse (front ++ c ∷ []))
    ≡ cond (not (is_line_feed c)) (c ∷ take_while (λ c. not (is_line_feed c)) (reverse front)) [] =
    ap (take_while (λ c. not (is_line_feed c))) (reverse-append front (c ∷ []))
    ∙ take_while-cons (λ c. not (is_line_feed c)) c (reverse front) in
    rw (more, last)
    (elim (is_line_feed c) as
    (λ b. ◌≡◌ {A = Place} (cond b (record { line = 1 + count_by is_line_feed front + 1; column = 0 })
    (record {
      line = 1 + count_by is_line_feed front;
      column = length (take_while (λ c. not (is_line_feed c)) (reverse front)) + 1;
    }))
    (record {
      line = 1 + (count_by is_line_feed front + cond b 1 0);
      column = length (cond (not b) (c ∷ take_while (λ c. not (is_line_feed c)) (reverse front)) []);
    })) [
      | true ↦ ap (λ n. record { line = n; column = 0 }) (omega arith)
      | false ↦ ap₂ (λ m n. record { line = m; column = n }) (omega arith) (omega arith)
    ])

-- the line and column after one text and then another
pub end_place-append : (front text : List ℕ) → moved_past (end_place front) text ≡ end_place (front ++ text)
end_place-append front [] = ap end_place (sym (append-nil front))
end_place-append front (c ∷ text) =
    ap (λ place. moved_past place text) (end_place-push front c)
    ∙ (end_place-append (front ++ c ∷ []) text ∙ ap end_place (append_assoc front (c ∷ []) text))

-- the line and column of the position where the rest of the source begins
place_of-front : (base at : ℕ) (source front rest : List ℕ) → source ≡ front ++ rest → at ≡ base + length front
    → place_of base source at ≡ end_place front
place_of-front base at source front rest whole e =
    let size : at - base ≡ length front = omega arith in
    let cut : take (at - base) source ≡ front =
    ap₂ take size whole ∙ take-append_seam front rest in
    ap end_place cut

moved_past-append : (place : Place) (p q : List ℕ) → moved_past place (p ++ q) ≡ moved_past (moved_past place p) q
moved_past-append place [] q = refl
moved_past-append place (c ∷ p) q = moved_past-append (next_place place c) p q

-- the line and column of the position after a beginning of the source
place_is : (base at : ℕ) (source front rest : List ℕ) (place : Place) → source ≡ front ++ rest
    → at ≡ base + length front → place ≡ moved_past origin front
    → place ≡ place_of base source at
place_is base at source front rest place whole e here =
    here ∙ (end_place-append [] front ∙ sym (place_of-front base at source front rest whole e))

-- ---- pieces on one line

one_line_moves : (place : Place) (text : List ℕ) → is_one_line text ≡ true
    → record { line = place.line; column = place.column + length text } ≡ moved_past place text
one_line_moves place [] h = ap (λ n. record { line = place.line; column = n }) (omega arith)
one_line_moves place (c ∷ text) h =
    let parts = and_parts _ _ h in
    let next : Place = record { line = place.line; column = place.column + 1 } in
    let inside : next_place place c ≡ next =
    ap (λ b. cond b (record { line = place.line + 1; column = 0 }) next) (not-true _ parts.0) in
    let size : place.column + length (c ∷ text) ≡ place.column + 1 + length text = omega arith in
    ap (λ n. record { line = place.line; column = n }) size
    ∙ (one_line_moves next text parts.1 ∙ ap (λ p. moved_past p text) (sym inside))

-- a line feed is not in the class
no_feed : (class : ℕ → Bool) → class 10 ≡ false → (c : ℕ) → class c ≡ true → not (is_line_feed c) ≡ true
no_feed class none c is =
    ap not (false_from_ne_true (c == 10) (λ t. true≢false (sym is ∙ (ap class (eqb-true c 10 t) ∙ none))))

one_character : (class : ℕ → Bool) → class 10 ≡ false → (c : ℕ) (text : List ℕ) → text ≡ c ∷ [] → class c ≡ true
    → is_one_line text ≡ true
one_character class none c text e is = ap is_one_line e ∙ and_from _ _ (no_feed class none c is) refl

no_feed_goes_on : is_ident_continue 10 ≡ false
no_feed_goes_on = ident_continue_ascii 10 (omega arith)

one_line_name : (raw : Bool) (name rest text : List ℕ) → Identifier raw name rest → text ≡ raw_front raw ++ name
    → is_one_line text ≡ true
one_line_name raw name rest text h e =
    let alone = (identifier_alone raw name rest h).0 in
    let begin = alone.first in
    let front : is_one_line (raw_front raw) ≡ true = elim raw as (λ b. is_one_line (raw_front b) ≡ true) [
      | true ↦ refl
      | false ↦ refl
    ] in
    let first : is_one_line alone.front ≡ true =
    one_character is_ident_continue no_feed_goes_on begin.0 alone.front begin.1 (start_continues begin.0 begin.2) in
    let back : is_one_line alone.back ≡ true =
    all_pass _ _ (no_feed is_ident_continue no_feed_goes_on) alone.back alone.second.each in
    let whole : is_one_line name ≡ true =
    ap is_one_line alone.whole ∙ (list_all-append _ alone.front alone.back ∙ and_from _ _ first back) in
    ap is_one_line e ∙ (list_all-append _ (raw_front raw) name ∙ and_from _ _ front whole)

-- the line and column after a piece on one line
pub moves_along : (start : Place) (front : List ℕ) (count : ℕ) → count ≡ length front → is_one_line front ≡ true
    → record { line = start.line; column = start.column + count } ≡ moved_past start front
moves_along start front count size h =
    ap (λ n. record { line = start.line; column = start.column + n }) size ∙ one_line_moves start front h

pub mark_line : {lexed : Lexed} (is : IsLexed lexed) (joint : Bool) (mark : ℕ)
    → lexed.piece.kind ≡ pieces.Mark joint mark → is_one_line is.found.front ≡ true
mark_line is joint mark e =
    let stands = stands_as is (pieces.Mark joint mark) e in
    one_character is_mark refl mark is.found.front stands.0 (stands_mark mark joint is.found.rest stands.1)

pub name_line : {lexed : Lexed} (is : IsLexed lexed) (raw : Bool) (name : _) → lexed.piece.kind ≡ pieces.Name raw name
    → is_one_line is.found.front ≡ true
name_line is raw name e =
    let stands = stands_as is (pieces.Name raw name) e in
    one_line_name raw (chars name.now) is.found.rest is.found.front stands.1 stands.0

pub opening_line : (d : Delimiter) (front : List ℕ) → front ≡ opening d → is_one_line front ≡ true
opening_line None front e = ap is_one_line e
opening_line _ front e = ap is_one_line e

pub closing_line : (d : Delimiter) (front : List ℕ) → front ≡ closing d → is_one_line front ≡ true
closing_line None front e = ap is_one_line e
closing_line _ front e = ap is_one_line e

-- ---- lists of trees

listed-joined : (place : ℕ → Place) (f g : Forest)
    → tree_places place (chain f g) ≡ tree_places place f ++ tree_places place g
listed-joined place f g =
    ap (map (tree_place place)) (in_order-joined f g [] ∙ in_order-append f [] (in_order g))
    ∙ map-append (tree_place place) (in_order f) (in_order g)

listed_open-joined : (place : ℕ → Place) (groups : List Opened) (trees more : Forest)
    → listed_open place groups (chain trees more) ≡ listed_open place groups trees ++ tree_places place more
listed_open-joined place [] trees more = listed-joined place trees more
listed_open-joined place (x ∷ groups) trees more =
    ap (λ xs. listed_open place groups x.outer ++ (opener place x.lo ∷ xs)) (listed-joined place trees more)
    ∙ sym (append_assoc (listed_open place groups x.outer) (opener place x.lo ∷ tree_places place trees)
    (tree_places place more))

-- line and column grow by at most the number of characters
pub moved_past-within : (place : Place) (text : List ℕ)
    → ((moved_past place text).line ≤ place.line + length text)
    × ((moved_past place text).column ≤ place.column + length text)
moved_past-within place [] = (omega arith, omega arith)
moved_past-within place (c ∷ text) =
    let more = moved_past-within (next_place place c) text in
    let one : ((next_place place c).line ≤ place.line + 1) × ((next_place place c).column ≤ place.column + 1) =
    elim (is_line_feed c) as
    (λ b. ((cond {A = Place} b (record { line = place.line + 1; column = 0 })
    (record { line = place.line; column = place.column + 1 })).line ≤ place.line + 1)
    × ((cond {A = Place} b (record { line = place.line + 1; column = 0 })
    (record { line = place.line; column = place.column + 1 })).column ≤ place.column + 1)) [
      | true ↦ (omega arith, omega arith)
      | false ↦ (omega arith, omega arith)
    ] in
    (omega (arith, more.0, one.0), omega (arith, more.1, one.1))

-- what the placer keeps of the innermost open group
abbrev frame_of : (ℕ → Place) → Opened → List Opened → OpenGroup
frame_of place x groups = record {
  delimiter = x.delimiter;
  lo = x.lo;
  start = place x.lo;
  index = length (listed_open place groups x.outer);
}

-- ---- one more step

-- the line and column are at most the position, so they fit 32 bits
pub placed_room : {placer : Placer} {taken : Taken OpenGroup} → Places placer taken
    → (placer.here.line ≤ position taken) × (placer.here.column ≤ position taken)
placed_room {placer} {taken} h =
    let within = moved_past-within origin taken.passed in (
      omega (arith, within.0, ap (λ p. p.line) h.here, h.begins),
      omega (arith, within.1, ap (λ p. p.column) h.here, h.begins),
    )

-- the list has the tree of an open group at the group's index
within_of : (place : ℕ → Place) (items : List PlacedTree) (x : OpenGroup) (outer opened : List OpenGroup)
    (groups : List Opened) (trees : Forest) → opened ≡ x ∷ outer → opened ≡ open_groups place groups
    → items ≡ listed_open place groups trees → x.index < length items
within_of place items x outer opened [] trees was around lists =
    let clash : x ∷ outer ≡ [] = sym was ∙ around in cc
within_of place items x outer opened (y ∷ groups) trees was around lists =
    let before = listed_open place groups y.outer in
    let split : x ∷ outer ≡ open_groups place (y ∷ groups) = sym was ∙ around in
    let head : x ≡ frame_of place y groups = cc in
    omega (
      arith,
      ap (λ f. f.index) head,
      ap length lists,
      length-append before (opener place y.lo ∷ tree_places place trees),
    )

pub placed_within : {placer : Placer} {taken : Taken OpenGroup} (x : OpenGroup) (outer : List OpenGroup)
    → taken.opened ≡ x ∷ outer → Places placer taken → x.index < length placer.trees.items
placed_within {placer} {taken} x outer was h =
    within_of (place_of taken.base taken.source) placer.trees.items x outer taken.opened h.groups h.trees was h.around
    h.lists

-- where the trees of a piece of this kind begin and end
abbrev kind_places : PieceKind → Place → Place → List PlacedTree
kind_places (pieces.Doc inner doc_body) start end = doc_places inner start end
kind_places pieces.Literal start end = record { start = start; end = end; kind = kinds.Literal } ∷ []
kind_places (pieces.Mark joint mark) start end = record { start = start; end = end; kind = kinds.Punct } ∷ []
kind_places (pieces.Name raw name) start end = record { start = start; end = end; kind = kinds.Ident } ∷ []
kind_places _ start end = []

kind_listed : (kind : PieceKind) (place : ℕ → Place) (lo hi : ℕ) (text : List ℕ)
    → kind_places kind (place lo) (place hi) ≡ tree_places place (token_trees kind lo hi text)
kind_listed (pieces.Doc true doc_body) place lo hi text = refl
kind_listed (pieces.Doc false doc_body) place lo hi text = refl
kind_listed _ place lo hi text = refl

now_here : (old new origin : Place) (passed front : List ℕ) → new ≡ moved_past old front
    → old ≡ moved_past origin passed → new ≡ moved_past origin (passed ++ front)
now_here old new origin passed front moved here =
    moved ∙ (ap (λ p. moved_past p front) here ∙ sym (moved_past-append origin passed front))

-- a piece without trees adds no trees
pub placed_gap : {old new : Placer} {before : Taken OpenGroup} (h : Places old before) (front : List ℕ)
    → new.here ≡ moved_past old.here front → new.trees.items ≡ old.trees.items
    → Places new (past before front before.opened [])
placed_gap {old} {new} {before} h front moved same = record {
  begins = h.begins;
  groups = h.groups;
  trees = h.trees;
  same = h.same ∙ sym (append-nil before.events);
  here = now_here old.here new.here origin before.passed front moved h.here;
  around = h.around;
  lists = same ∙ h.lists;
}

module _ {old : Placer} {lexed : Lexed} (to : IsTakenTo Places old lexed) where
  abbrev before : Taken OpenGroup
  before = to.before

  abbrev front : List ℕ
  front = to.is.found.front

  abbrev h : Places old before
  h = to.takes

  abbrev place : ℕ → Place
  place = place_of before.base before.source

  abbrev after : ℕ
  after = lexed.at + length front

  start_is : old.here ≡ place lexed.at
  start_is = place_is before.base lexed.at before.source before.passed (chars lexed.text.now) old.here to.source to.at
      h.here

  end_is : (end : Place) → end ≡ moved_past old.here front → end ≡ place after
  end_is end moved = place_is before.base after before.source (before.passed ++ front) to.is.found.rest end
      (to.source ∙ (ap (λ t. before.passed ++ t) to.is.found.whole
      ∙ sym (append_assoc before.passed front to.is.found.rest)))
      (omega (arith, to.at, length-append before.passed front))
      (now_here old.here end origin before.passed front moved h.here)

  module _ {new : Placer} (moved : new.here ≡ moved_past old.here front) where
    token_placed : (kind : PieceKind) → IsToken kind
        → new.trees.items ≡ old.trees.items ++ kind_places kind old.here new.here
        → Places new (past before front before.opened (events_onto lexed.at (kind_of kind front) front []))
    token_placed kind is grown =
        let f = token_trees kind lexed.at after front in
        record {
          begins = h.begins;
          groups = h.groups;
          trees = chain h.trees f;
          same = unclosed-joined h.groups h.trees f []
              ∙ (unclosed-append h.groups h.trees [] (flattening f)
              ∙ ap₂ (λ xs ys. xs ++ ys) h.same (token_events kind lexed.at front is));
          here = now_here old.here new.here origin before.passed front moved h.here;
          around = h.around;
          lists = grown ∙ (ap₂ (λ xs ys. xs ++ ys) h.lists
              (ap₂ (kind_places kind) start_is (end_is new.here moved) ∙ kind_listed kind place lexed.at after front)
              ∙ sym (listed_open-joined place h.groups h.trees f));
        }

    pub placed_open : (d : Delimiter) (index : ℕ) → index ≡ length old.trees.items
        → new.trees.items ≡ old.trees.items ++ (record { start = old.here; end = old.here; kind = kinds.Group } ∷ [])
        → Places new (past before front
        (record { delimiter = d; lo = lexed.at; start = old.here; index = index } ∷ before.opened)
        (Opens d lexed.at ∷ []))
    placed_open d index is grown =
        let frame : Place → ℕ → OpenGroup = λ s n. record { delimiter = d; lo = lexed.at; start = s; index = n } in
        record {
          begins = h.begins;
          groups = record { outer = h.trees; delimiter = d; lo = lexed.at } ∷ h.groups;
          trees = nil;
          same = unclosed-append h.groups h.trees [] (Opens d lexed.at ∷ [])
              ∙ ap (λ es. es ++ (Opens d lexed.at ∷ [])) h.same;
          here = now_here old.here new.here origin before.passed front moved h.here;
          around = ap₂ (λ y ys. y ∷ ys) (ap₂ frame start_is (is ∙ ap length h.lists)) h.around;
          lists = grown ∙ ap₂ (λ xs s. xs ++ (record { start = s; end = s; kind = kinds.Group } ∷ [])) h.lists start_is;
        }

    close_of : (d : Delimiter) (x : OpenGroup) (outer : List OpenGroup) (groups : List Opened) (trees : Forest)
        → before.opened ≡ x ∷ outer → x.delimiter ≡ d
        → new.trees.items ≡ set old.trees.items x.index (record { start = x.start; end = new.here; kind = kinds.Group })
        → unclosed_onto groups trees [] ≡ before.events → before.opened ≡ open_groups place groups
        → old.trees.items ≡ listed_open place groups trees
        → Places new (past before front outer (Closes d after ∷ []))
    close_of d x outer [] trees was fits grown same around lists =
        let clash : x ∷ outer ≡ [] = sym was ∙ around in cc
    close_of d x outer (y ∷ groups) trees was fits grown same around lists =
        let split : x ∷ outer ≡ open_groups place (y ∷ groups) = sym was ∙ around in
        let head : x ≡ frame_of place y groups = cc in
        let back : outer ≡ open_groups place groups = cc in
        let agree : y.delimiter ≡ d = ap (λ o. o.delimiter) (sym head) ∙ fits in
        let first = listed_open place groups y.outer in
        let tree : PlacedTree = record { start = place y.lo; end = place after; kind = kinds.Group } in
        let made : record { start = x.start; end = new.here; kind = kinds.Group } ≡ tree =
        ap₂ (λ s e. record { start = s; end = e; kind = kinds.Group }) (ap (λ o. o.start) head)
        (end_is new.here moved) in
        record {
          begins = h.begins;
          groups = groups;
          trees = chain y.outer (group d y.lo after trees nil);
          same = unclosed-joined groups y.outer (group d y.lo after trees nil) []
              ∙ (ap (λ b. unclosed_onto groups y.outer (Opens b y.lo ∷ flat_onto trees (Closes d after ∷ [])))
              (sym agree)
              ∙ (unclosed-append (y ∷ groups) trees [] (Closes d after ∷ [])
              ∙ ap (λ es. es ++ (Closes d after ∷ [])) same));
          here = now_here old.here new.here origin before.passed front moved h.here;
          around = back;
          lists = grown ∙ (ap₂ (λ n t. set old.trees.items n t) (ap (λ o. o.index) head) made
              ∙ (ap (λ xs. set xs (length first) tree) lists
              ∙ (set-append_seam first (opener place y.lo) (tree_places place trees) tree
              ∙ sym (listed_open-joined place groups y.outer (group d y.lo after trees nil)))));
        }

    pub placed_close : (d : Delimiter) (x : OpenGroup) (outer : List OpenGroup) → before.opened ≡ x ∷ outer
        → x.delimiter ≡ d → length front ≡ 1
        → new.trees.items ≡ set old.trees.items x.index (record { start = x.start; end = new.here; kind = kinds.Group })
        → Places new (past before front outer (Closes d (lexed.at + 1) ∷ []))
    placed_close d x outer was fits one grown =
        subst (λ n. Places new (past before front outer (Closes d (lexed.at + n) ∷ []))) one
        (close_of d x outer h.groups h.trees was fits grown h.same h.around h.lists)

-- the trees of the piece were placed
pub placed_token : {old new : Placer} (lexed : Lexed) (kind : PieceKind) → IsToken kind
    → ((is : IsLexed lexed) → new.here ≡ moved_past old.here is.found.front)
    → new.trees.items ≡ old.trees.items ++ kind_places kind old.here new.here → HasTaken Places old new lexed kind
placed_token lexed kind is moved grown = λ to. token_placed to (moved to.is) kind is grown

-- ---- all trees

pub placed_none : (base : ℕ) (source : List ℕ) (placer : Placer) → 1 ≤ base → placer.here ≡ origin
    → placer.trees.items ≡ [] → Places placer (nothing base source)
placed_none base source placer begins here none = record {
  begins = begins;
  groups = [];
  trees = nil;
  same = refl;
  here = here;
  around = refl;
  lists = none;
}

all_of : (base : ℕ) (source : List ℕ) (items : List PlacedTree) (groups : List Opened) (trees stream : Forest)
    → ParsesTo base source stream → unclosed_onto groups trees [] ≡ flattening stream
    → [] ≡ open_groups (place_of base source) groups → items ≡ listed_open (place_of base source) groups trees
    → ArePlaced base source items
all_of base source items [] trees stream parses same none lists = record {
  stream = trees;
  parses = record { pieces = parses.pieces; covers = parses.covers; expands = same ∙ parses.expands };
  places = lists;
}
all_of base source items (y ∷ groups) trees stream parses same none lists =
    let clash : [] ≡ open_groups (place_of base source) (y ∷ groups) = none in cc

pub placed_all : (base : ℕ) (source : List ℕ) (placer : Placer)
    → ReadsAll (λ placer taken. Places placer taken) base source placer → ArePlaced base source placer.trees.items
placed_all base source placer h =
    all_of base source placer.trees.items h.takes.groups h.takes.trees h.stream h.parses h.takes.same h.takes.around
    h.takes.lists

-- ---- white characters

white_ascii : (cs : List ℕ) → list_all ascii_white cs ≡ true → all_ascii cs ≡ true
white_ascii = all_pass _ _ (λ c is. (and_parts _ _ is).0)

-- the white characters that are skipped, by bytes
module _ (tail rest : List ℕ) (count : ℕ) where
  white_cut : (white : IsPastWhite (chars tail) rest count)
      → (take count (chars tail) ≡ white.front) × (byte_offset (chars tail) count ≡ count)
  white_cut white =
      let cut : take count (chars tail) ≡ white.front =
      ap₂ take white.chars white.whole ∙ take-append_seam white.front rest in
      let bytes : encode_utf8_all white.front ≡ white.front =
      encode_all_ascii white.front (white_ascii white.front white.stands.each) in
      (cut, ap length (ap encode_utf8_all cut ∙ bytes) ∙ sym white.chars)

  pub white_boundary : IsUtf8 tail → IsPastWhite (chars tail) rest count → IsCharBoundary tail count
  white_boundary utf8 white = subst (IsCharBoundary tail) (white_cut white).1 (boundary_at tail count utf8)

  pub white_text : (bytes : List ℕ) → IsUtf8 tail → (white : IsPastWhite (chars tail) rest count)
      → bytes ≡ take (count - 0) tail → chars bytes ≡ white.front
  white_text bytes utf8 white e =
      let all : count - 0 ≡ count = omega arith in
      let cut = white_cut white in
      ap chars (e ∙ ap (λ n. take n tail) (all ∙ sym cut.1)) ∙ (front_at tail count utf8 ∙ cut.0)

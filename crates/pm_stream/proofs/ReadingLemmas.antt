-- What the loop over pieces has read, after one more step, and how the loop ends.
use Rattle.std.proofs.Common.{◌≡◌, ◌≢◌, ◌⊎◌, inl, inr, ℕ, ◌+◌, ◌<◌, ◌^◌, ◌||◌, ◌==◌, Bool, true, false, arith, eqb-true}
use Rattle.std.proofs.Common.{refl, sym, ap, ap₂, ◌∙◌, subst, List, [], ◌∷◌, ◌++◌, length, drop, reverse, map}
use Rattle.std.proofs.Common.{append_assoc, append-nil, length-append}
use Rattle.std.proofs.Common.{Result, Ok, Err, Option, Some, None, MatchOption, IfSome, OnOk, IfErr}
use Rattle.std.specs.List.{list_any}
use Rattle.std.specs.Option.{option_to_list}
use Rattle.std.specs.Str.{chars, IsUtf8}
use Rattle.std.proofs.lemmas.List.{reverse-append}
use Rattle.std.proofs.lemmas.Bool.{and_parts, false_from_ne_true}
use Rattle.std.proofs.lemmas.Str.{length-le-encodes}
use Rattle.lexical.specs.Delimiter.{Opener, Closer, is_opener, is_closer}
use Rattle.lexical.specs.Found.{IsPieceAt, kind_of}
use Rattle.lexical.specs.Piece.{HasNoPiece, IsPiece}
use Rattle.lexical.specs.Token as tokens
use Rattle.lexical.specs.WhiteRun.{IsPastWhite}
use Rattle.lexical.specs.declared.piece.Piece.{Piece as Found}
use Rattle.lexical.specs.declared.piece.PieceKind.{PieceKind}
use Rattle.lexical.specs.declared.piece.PieceKind.TheVariants as kinds
use Rattle.lexical.proofs.PieceFacts.{piece_rest, piece_shortens}
use Rattle.lexical.proofs.TextLemmas.{front_len}
use Rattle.lexical.proofs.WhiteRunLemmas.{all_white}
use Rattle.pm_span.specs.Extent.{Extent}
use Rattle.pm_token.specs.declared.delimiters.Delimiter.{Delimiter}
use Rattle.pm_token.specs.declared.errors.ParseError.{ParseError}
use Rattle.pm_token.specs.declared.errors.ParseError.TheVariants.{Lex, MapFull, Memory}
use Rattle.pm_stream.specs.Delimited.{delimiter_of, opening, closing}
use Rattle.pm_stream.specs.Events.{Event, Opens, Closes, events_onto}
use Rattle.pm_stream.specs.Fault.{IsFault, IsFaultFor, IsOpenFault, IsStray}
use Rattle.pm_stream.specs.Forest.{Forest, nil, leaf, group, flat_onto, flattening, chain}
use Rattle.pm_stream.specs.OpenGroups.{FitsInnermost, Opened, unclosed_onto}
use Rattle.pm_stream.specs.Parsing.{FaultAt}
use Rattle.pm_stream.specs.Reading.{CanRead, HasRead, Reads, ReadsAll, ReadsMore, ReadsTo, Reading, openers_of}
use Rattle.pm_stream.specs.Taken.{CanClose, CanOpen, CanPass, HasClosed, HasOpened, HasPassed, HasTaken}
use Rattle.pm_stream.specs.Taken.{Taken, Waiting, nothing, past}
use Rattle.pm_stream.specs.declared.reading.Lexed.{Lexed}
use Rattle.pm_stream.proofs.DocLemmas.{doc_trees, doc_trees-events}
use Rattle.pm_stream.proofs.EventLemmas.{unclosed-append, unclosed-joined}
use Rattle.pm_stream.proofs.PieceLemmas.{stands_as}
use Rattle.pm_stream.proofs.ParserLemmas.{reads_all, reads_more, reads_none, reads_open, reads_stray, reads_stuck}
use Rattle.pm_stream.proofs.ParserLemmas.{reads_white}

-- ---- the texts of delimiters

or_split : (a b : Bool) → (a || b) ≡ true → (a ≡ true) ⊎ (b ≡ true)
or_split true b h = inl refl
or_split false b h = inr h

any_three : (a b d c : ℕ) (P : ℕ → Type 0) → P a → P b → P d → list_any (λ x. x == c) (a ∷ b ∷ d ∷ []) ≡ true → P c
any_three a b d c P pa pb pd h = elim (or_split (a == c) _ h) [
  | inl e ↦ subst P (eqb-true a c e) pa
  | inr more ↦ elim (or_split (b == c) _ more) [
    | inl e ↦ subst P (eqb-true b c e) pb
    | inr last ↦ elim (or_split (d == c) false last) [
      | inl e ↦ subst P (eqb-true d c e) pd
      | inr never ↦ let clash : false ≡ true = never in cc
    ]
  ]
]

pub opener_text : (c : ℕ) (p r : List ℕ) → Opener c p r → (p ≡ opening (delimiter_of c)) × (length p ≡ 1)
opener_text c p r h =
    let d = h.0.0 in
    let parts = and_parts (is_opener d) (d == c) h.0.2 in (
      h.0.1 ∙ (any_three 40 91 123 d (λ n. n ∷ [] ≡ opening (delimiter_of n)) refl refl refl parts.0
          ∙ ap (λ n. opening (delimiter_of n)) (eqb-true d c parts.1)),
      ap length h.0.1,
    )

pub closer_text : (c : ℕ) (p r : List ℕ) → Closer c p r → (p ≡ closing (delimiter_of c)) × (length p ≡ 1)
closer_text c p r h =
    let d = h.0 in
    let parts = and_parts (is_closer d) (d == c) h.2 in (
      h.1 ∙ (any_three 41 93 125 d (λ n. n ∷ [] ≡ closing (delimiter_of n)) refl refl refl parts.0
          ∙ ap (λ n. closing (delimiter_of n)) (eqb-true d c parts.1)),
      ap length h.1,
    )

-- ---- results

pub on_ok : {A E P Q : Type 0} (result : Result A E) → (P → Q) → OnOk result P → OnOk result Q
on_ok (Ok x) f h = f h
on_ok (Err error) f h = tt

-- the last item of a list was removed
pub pop_last : {T : Type 0} (old new : List T) (got : Option T) (P : T → Type 0) (last : T) → got ≡ Some last
    → old ≡ new ++ option_to_list got → P last → IfSome got (λ x. (reverse old ≡ x ∷ reverse new) × P x)
pop_last old new got P last is items h =
    subst (λ x. IfSome x (λ y. (reverse old ≡ y ∷ reverse new) × P y)) (sym is)
    (ap reverse (items ∙ ap (λ x. new ++ option_to_list x) is) ∙ reverse-append new (last ∷ []), h)

-- ---- a piece that is no stray closer

-- the piece is not a closer that doesn't close the innermost open group
abbrev pub IsNoStray : {T : Type 0} → (T → Waiting) → List T → PieceKind → Type 0
IsNoStray opens stack kind =
    (groups : List Opened) → map opens (reverse stack) ≡ openers_of groups → IsStray kind groups → ⊥

module _ {A E T : Type 0} (result : Result A E) (opens : T → Waiting) (stack : List T) (kind : PieceKind) where
  where_refused : (is : PieceKind) → kind ≡ is → IsNoStray opens stack is
      → IfErr result (λ _. IsNoStray opens stack kind)
  where_refused is e h = elim result as (λ r. IfErr r (λ _. IsNoStray opens stack kind)) [
    | Ok x ↦ tt
    | Err error ↦ subst (IsNoStray opens stack) (sym e) h
  ]

  pub no_closer : (is : PieceKind) → kind ≡ is → ((groups : List Opened) → IsStray is groups → ⊥)
      → IfErr result (λ _. IsNoStray opens stack kind)
  no_closer is e never = where_refused is e (λ groups around. never groups)

  pub closer_fits : (c : ℕ) (d : Delimiter) (x : T) (left : List T) → kind ≡ kinds.Closer c → d ≡ delimiter_of c
      → reverse stack ≡ x ∷ reverse left → (opens x).0 ≡ d → IfErr result (λ _. IsNoStray opens stack kind)
  closer_fits c d x left e is was fits = where_refused (kinds.Closer c) e
      (λ groups around stray. stray (fits_of groups (ap (map opens) (sym was) ∙ around)))
    where
      fits_of : (groups : List Opened) → opens x ∷ map opens (reverse left) ≡ openers_of groups
          → FitsInnermost (delimiter_of c) groups
      fits_of [] split = absurd (cc)
      fits_of (y ∷ groups) split =
          let head : opens x ≡ (y.delimiter, y.lo) = cc in
          sym (ap (λ w. w.0) head) ∙ (fits ∙ is)

-- ---- the events of a token

-- a piece that is neither an opener nor a closer
abbrev pub IsToken : PieceKind → Type 0
IsToken (kinds.Opener c) = ⊥
IsToken (kinds.Closer c) = ⊥
IsToken _ = Unit {0}

-- the trees of such a piece
abbrev pub token_trees : PieceKind → ℕ → ℕ → List ℕ → Forest
token_trees (kinds.Doc inner doc_body) lo hi text = doc_trees lo hi inner (chars doc_body.now)
token_trees kinds.Literal lo hi text = leaf (tokens.Literal text) lo hi nil
token_trees (kinds.Mark joint mark) lo hi text = leaf (tokens.Mark mark joint) lo hi nil
token_trees (kinds.Name raw name) lo hi text = leaf (tokens.Name raw (chars name.now)) lo hi nil
token_trees _ lo hi text = nil

pub token_events : (kind : PieceKind) (at : ℕ) (text : List ℕ) → IsToken kind
    → flattening (token_trees kind at (at + length text) text) ≡ events_onto at (kind_of kind text) text []
token_events (kinds.Doc inner doc_body) at text is =
    doc_trees-events at (at + length text) inner (chars doc_body.now) []
token_events (kinds.Opener c) at text is = absurd is
token_events (kinds.Closer c) at text is = absurd is
token_events _ at text is = refl

-- ---- faults

fault_is : (base : ℕ) (source : List ℕ) (at : ℕ) (reason : Type 0) (error : ParseError)
    → (reason → FaultAt base source at) → IsFaultFor at reason error → IsFault base source error
fault_is base source at reason (Lex extent) fault h =
    let IsFaultOf : Extent → Type 0 = λ e. (e.lo ≡ e.hi) × FaultAt base source e.lo in
    subst IsFaultOf (sym h.0) (refl, fault h.1)
fault_is base source at reason MapFull fault h = absurd h
fault_is base source at reason (Memory error) fault h = tt

stray_at : (base : ℕ) (source mid front rest : List ℕ) (at : ℕ) (first : Bool) (groups : List Opened)
    (trees : Forest) (kind : PieceKind)
    → Reads base source mid at first groups trees → mid ≡ front ++ rest
    → IsPiece first (kind_of kind front) front rest → IsStray kind groups → FaultAt base source at
stray_at base source mid front rest at first groups trees (kinds.Closer c) reads whole stands stray =
    reads_stray base source mid front rest at first groups trees c reads whole stands stray
stray_at base source mid front rest at first groups trees _ reads whole stands stray = absurd stray

-- a group is still open at the end
open_at : (base : ℕ) (source : List ℕ) (at : ℕ) (first : Bool) (groups : List Opened) (trees : Forest)
    (error : ParseError)
    → Reads base source [] at first groups trees → IsOpenFault groups error → IsFault base source error
open_at base source at first [] trees error reads h = fault_is base source 0 ⊥ error (λ none. absurd none) h
open_at base source at first (x ∷ groups) trees error reads h =
    fault_is base source x.lo (Unit {0}) error (λ u. reads_open base source [] at first x groups trees reads refl) h

-- ---- one more step

abbrev taken_with : {T : Type 0} → ℕ → List ℕ → List ℕ → List T → List Event → Taken T
taken_with base source passed opened events =
    record { base = base; source = source; passed = passed; opened = opened; events = events }

module _ {S T : Type 0} {opens : T → Waiting} {took : S → Taken T → Type 0} {old : S} {stack : List T} (lexed : Lexed)
    (c : ℕ) (d : Delimiter) (is : d ≡ delimiter_of c) where
  abbrev pub can_open : (can : CanRead opens took old stack lexed) → lexed.piece.kind ≡ kinds.Opener c
      → CanOpen took old lexed d
  can_open can e =
      let text = opener_text c can.to.is.found.front can.to.is.found.rest (stands_as can.to.is (kinds.Opener c) e) in
      record { to = can.to; front = text.0 ∙ ap opening (sym is); one = text.1 }

  abbrev pub can_close : (x : T) (left : List T) → (can : CanRead opens took old stack lexed)
      → lexed.piece.kind ≡ kinds.Closer c → reverse stack ≡ x ∷ reverse left → (opens x).0 ≡ d
      → CanClose opens took old lexed d x
  can_close x left can e was fits =
      let text = closer_text c can.to.is.found.front can.to.is.found.rest (stands_as can.to.is (kinds.Closer c) e) in
      record {
        to = can.to;
        front = text.0 ∙ ap closing (sym is);
        one = text.1;
        fits = fits;
        outer = reverse left;
        innermost = can.opened ∙ was;
      }

module _ {S T : Type 0} {opens : T → Waiting} {took : S → Taken T → Type 0} {old : S} {stack : List T} (lexed : Lexed)
    (can : CanRead opens took old stack lexed) where
  -- the step read these events
  abbrev HasReadOf : S → List T → List Event → Type 0
  HasReadOf new stack' es =
      ReadsMore opens took can.to.before.base can.to.before.source (can.to.before.passed ++ can.to.is.found.front)
      new stack' can.groups can.trees es

  -- the events of the piece, by its kind
  abbrev events_of : PieceKind → List Event
  events_of kind = events_onto lexed.at (kind_of kind can.to.is.found.front) can.to.is.found.front []

  -- after the step, the sink has taken the events of these groups and trees
  reads_step : (new : S) (stack' opened : List T) (groups : List Opened) (trees : Forest) (es : List Event)
      → opened ≡ reverse stack' → map opens opened ≡ openers_of groups
      → took new (past can.to.before can.to.is.found.front opened es)
      → unclosed_onto groups trees [] ≡ unclosed_onto can.groups can.trees es → HasReadOf new stack' es
  reads_step new stack' opened groups trees es now around h grows =
      record {
        groups_now = groups;
        trees_now = trees;
        reads = record {
          around = ap (map opens) (sym now) ∙ around;
          takes = subst (took new)
              (ap₂ (taken_with can.to.before.base can.to.before.source (can.to.before.passed ++ can.to.is.found.front))
              now
              (ap (λ fs. fs ++ es) can.events ∙ (sym (unclosed-append can.groups can.trees [] es) ∙ sym grows))) h;
        };
        grows = grows;
      }

module _ {S T : Type 0} {opens : T → Waiting} {took : S → Taken T → Type 0} {old new : S} {stack stack' : List T}
    (lexed : Lexed) where
  pub reads_token : (is : PieceKind) → lexed.piece.kind ≡ is → IsToken is → stack' ≡ stack
      → HasTaken took old new lexed is → HasRead opens took old new stack stack' lexed
  reads_token is e token same step = λ can.
      let front = can.to.is.found.front in
      let trees = token_trees is lexed.at (lexed.at + length front) front in
      subst (HasReadOf lexed can new stack') (ap (events_of lexed can) (sym e))
      (reads_step lexed can new stack' can.to.before.opened can.groups (chain can.trees trees) (events_of lexed can is)
      (can.opened ∙ ap reverse (sym same)) (ap (map opens) can.opened ∙ can.around) (step can.to)
      (unclosed-joined can.groups can.trees trees []
      ∙ ap (unclosed_onto can.groups can.trees) (token_events is lexed.at front token)))

  module _ (c : ℕ) (d : Delimiter) (x : T) (is : d ≡ delimiter_of c) where
    pub reads_opener : lexed.piece.kind ≡ kinds.Opener c → stack' ≡ stack ++ x ∷ []
        → HasOpened opens took old new lexed d x → HasRead opens took old new stack stack' lexed
    reads_opener e more step = λ can.
        subst (HasReadOf lexed can new stack') (ap (λ b. Opens b lexed.at ∷ []) is ∙ ap (events_of lexed can) (sym e))
        (reads_step lexed can new stack' (x ∷ can.to.before.opened)
        (record { outer = can.trees; delimiter = d; lo = lexed.at } ∷ can.groups) nil (Opens d lexed.at ∷ [])
        (ap (λ xs. x ∷ xs) can.opened ∙ sym (ap reverse more ∙ reverse-append stack (x ∷ [])))
        (ap₂ (λ y ys. y ∷ ys) step.0 (ap (map opens) can.opened ∙ can.around))
        (step.1 (can_open lexed c d is can e)) refl)

    module _ (e : lexed.piece.kind ≡ kinds.Closer c) (was : reverse stack ≡ x ∷ reverse stack')
        (fits : (opens x).0 ≡ d) where
      closer_of : (can : CanRead opens took old stack lexed) → HasClosed opens took old new lexed d x
          → (groups : List Opened) → can.groups ≡ groups → HasReadOf lexed can new stack' (Closes d (lexed.at + 1) ∷ [])
      closer_of can step [] same =
          let clash : opens x ∷ map opens (reverse stack') ≡ [] =
          ap (map opens) (sym was) ∙ (can.around ∙ ap openers_of same) in
          cc
      closer_of can step (y ∷ groups) same =
          let split : opens x ∷ map opens (reverse stack') ≡ (y.delimiter, y.lo) ∷ openers_of groups =
          ap (map opens) (sym was) ∙ (can.around ∙ ap openers_of same) in
          let head : opens x ≡ (y.delimiter, y.lo) = cc in
          let rest : map opens (reverse stack') ≡ openers_of groups = cc in
          let agree : y.delimiter ≡ d = ap (λ w. w.0) (sym head) ∙ fits in
          let hi = lexed.at + 1 in
          reads_step lexed can new stack' (reverse stack') groups (chain y.outer (group d y.lo hi can.trees nil))
          (Closes d hi ∷ []) refl rest (step (can_close lexed c d is x stack' can e was fits))
          (unclosed-joined groups y.outer (group d y.lo hi can.trees nil) []
          ∙ (ap (λ b. unclosed_onto groups y.outer (Opens b y.lo ∷ flat_onto can.trees (Closes d hi ∷ []))) (sym agree)
          ∙ ap (λ gs. unclosed_onto gs can.trees (Closes d hi ∷ [])) (sym same)))

      pub reads_closer : HasClosed opens took old new lexed d x → HasRead opens took old new stack stack' lexed
      reads_closer step = λ can.
          let one = (can_close lexed c d is x stack' can e was fits).one in
          subst (HasReadOf lexed can new stack')
          (ap₂ (λ b n. Closes b (lexed.at + n) ∷ []) is (sym one) ∙ ap (events_of lexed can) (sym e))
          (closer_of can step can.groups refl)

-- ---- the loop

pub reads_start : {S T : Type 0} {opens : T → Waiting} {took : S → Taken T → Type 0} (base : ℕ) (source : List ℕ)
    (sink : S) (stack : List T) → stack ≡ [] → took sink (nothing base source) → (first : Bool) → first ≡ true
    → ReadsTo opens took base source source base first sink stack
reads_start {opens = opens} {took = took} base source sink stack none h first e = record {
  groups = [];
  trees = nil;
  passed = [];
  whole = refl;
  position = omega arith;
  takes = record {
    around = ap (λ s. map opens (reverse s)) none;
    takes = subst (λ s. took sink (taken_with base source [] s [])) (sym (ap reverse none)) h;
  };
  reads = subst (λ b. Reads base source source base b [] nil) (sym e) (reads_none base source);
}

-- the text after a piece and the white characters after it is shorter
pub shorter : {first : Bool} {text bytes rest : List ℕ} {count : ℕ} {piece : Found} → IsUtf8 text
    → IsPieceAt first (chars text) piece → bytes ≡ drop piece.bytes text → IsPastWhite (chars bytes) rest count
    → (piece.chars + count + length rest ≡ length (chars text)) × (length rest < length (chars text))
shorter {first} {text} {bytes} {rest} {count} {piece} utf8 found cut white =
    let whole : length (chars text) ≡ length found.front + length found.rest =
    ap length found.whole ∙ length-append found.front found.rest in
    let left : length found.rest ≡ count + length rest =
    ap length (sym (ap chars cut ∙ piece_rest first text piece utf8 found) ∙ white.whole)
    ∙ (length-append white.front rest ∙ ap (λ n. n + length rest) (sym white.chars)) in
    let less = piece_shortens first (kind_of piece.kind found.front) found.front found.rest found.stands in
    (omega (arith, whole, left, found.chars), omega (arith, whole, left, found.chars, less, ap length found.whole))

module _ {S T : Type 0} {opens : T → Waiting} {took : S → Taken T → Type 0} {old : S} {stack : List T} {base : ℕ}
    {source : List ℕ} {first : Bool} (lexed : Lexed)
    (h : ReadsTo opens took base source (chars lexed.text.now) lexed.at first old stack)
    (found : IsPieceAt first (chars lexed.text.now) lexed.piece) (utf8 : IsUtf8 lexed.text.now)
    (room : lexed.at + length (chars lexed.text.now) < 2 ^ 32) where
  pub fits : lexed.at + lexed.piece.chars < 2 ^ 32
  fits = omega (arith, room, found.chars, ap length found.whole, length-append found.front found.rest)

  abbrev pub can_read : CanRead opens took old stack lexed
  can_read = record {
    to = record {
      is = record { first = first; found = found; utf8 = utf8; room = fits };
      before = taken_with base source h.passed (reverse stack) (unclosed_onto h.groups h.trees []);
      takes = h.takes.takes;
      at = h.position;
      source = h.whole;
    };
    groups = h.groups;
    trees = h.trees;
    around = h.takes.around;
    opened = refl;
    events = refl;
  }

  module _ {bytes rest : List ℕ} {count : ℕ} (cut : bytes ≡ drop lexed.piece.bytes lexed.text.now)
      (white : IsPastWhite (chars bytes) rest count) where
    tail_is : chars bytes ≡ found.rest
    tail_is = ap chars cut ∙ piece_rest first lexed.text.now lexed.piece utf8 found

    pub passed_is : source ≡ (h.passed ++ found.front) ++ chars bytes
    passed_is = h.whole ∙ (ap (λ m. h.passed ++ m) (found.whole ∙ ap (λ t. found.front ++ t) (sym tail_is))
        ∙ sym (append_assoc h.passed found.front (chars bytes)))

    abbrev text_before : List ℕ
    text_before = (h.passed ++ found.front) ++ white.front

    text_before_is : source ≡ text_before ++ rest
    text_before_is = passed_is ∙ (ap (λ t. (h.passed ++ found.front) ++ t) white.whole
        ∙ sym (append_assoc (h.passed ++ found.front) white.front rest))

    -- the rest isn't the whole text
    pub not_whole : (text left : List ℕ) → IsUtf8 text → IsUtf8 left → source ≡ chars text → rest ≡ chars left
        → (length left == length text) ≡ false
    not_whole text left t l all is =
        let whole : chars text ≡ text_before ++ chars left =
        sym all ∙ (text_before_is ∙ ap (λ r. text_before ++ r) is) in
        let size = front_len text left text_before t l whole in
        let some = length-le-encodes text_before in
        let less = (shorter utf8 found cut white).1 in
        let sizes = length-append text_before (chars left) in
        let before = length-append h.passed (chars lexed.text.now) in
        false_from_ne_true (length left == length text) (λ same. let e = eqb-true (length left) (length text) same in
        absurd (omega (
          arith,
          size,
          some,
          sizes,
          e,
          less,
          ap length h.whole,
          before,
          ap length whole,
          ap length all,
          ap length is,
        )))

    module _ {made : S} {stack' : List T} (step : HasRead opens took old made stack stack' lexed) where
      abbrev more : ReadsMore opens took base source (h.passed ++ found.front) made stack' h.groups h.trees
          (events_onto lexed.at (kind_of lexed.piece.kind found.front) found.front [])
      more = step can_read

      pub room_on : lexed.at + (length found.front + count) < 2 ^ 32
      room_on = omega (arith, room, (shorter utf8 found cut white).0, found.chars)

      -- the white characters after the piece can be skipped
      abbrev pub can_pass : CanPass took made (chars bytes) count
      can_pass = record {
        rest = rest;
        white = white;
        before = taken_with base source (h.passed ++ found.front) (reverse stack')
            (unclosed_onto more.groups_now more.trees_now []);
        takes = more.reads.takes;
        source = passed_is;
        room = omega (arith, room_on, h.position, length-append h.passed found.front);
      }

      -- what was read up to after the piece and the white characters
      pub reads_past : {new : S} (flag : Bool) → flag ≡ false → HasPassed took made new (chars bytes) count
          → ReadsTo opens took base source rest (lexed.at + (lexed.piece.chars + count)) flag new stack'
      reads_past {new} flag later passes =
          let mid = lexed.at + lexed.piece.chars in
          let at = lexed.at + (lexed.piece.chars + count) in
          let read : Reads base source found.rest mid false more.groups_now more.trees_now =
          reads_more base source (chars lexed.text.now) found.front found.rest lexed.at mid first h.groups
          more.groups_now h.trees more.trees_now (kind_of lexed.piece.kind found.front) h.reads found.whole
          found.stands (ap (λ n. lexed.at + n) found.chars) more.grows in
          record {
            groups = more.groups_now;
            trees = more.trees_now;
            passed = text_before;
            whole = text_before_is;
            position = omega (
              arith,
              h.position,
              found.chars,
              white.chars,
              length-append h.passed found.front,
              length-append (h.passed ++ found.front) white.front,
            );
            takes = record {
              around = more.reads.around;
              takes = subst (λ es. took new (taken_with base source text_before (reverse stack') es))
                  (append-nil (unclosed_onto more.groups_now more.trees_now [])) (passes can_pass);
            };
            reads = subst (λ b. Reads base source rest at b more.groups_now more.trees_now) (sym later)
                (reads_white base source (chars bytes) white.front rest mid at more.groups_now more.trees_now
                (subst (λ t. Reads base source t mid false more.groups_now more.trees_now) (sym tail_is) read)
                white.whole (all_white white.front white.stands.each) (omega (arith, white.chars)));
          }

-- ---- how the loop ends

-- no piece begins at the rest, or a closer that doesn't close the innermost open group does
abbrev pub Stops : {T : Type 0} → (T → Waiting) → Bool → List ℕ → List T → Option Found → Type 0
Stops opens first rest stack stray = MatchOption stray (HasNoPiece first rest) (λ piece. IsPieceAt first rest piece
    × ((groups : List Opened) → map opens (reverse stack) ≡ openers_of groups → IsStray piece.kind groups))

module _ {S T : Type 0} {opens : T → Waiting} {took : S → Taken T → Type 0} {base : ℕ} {source : List ℕ} (rest : List ℕ)
    {at : ℕ} {first : Bool} {sink : S} {stack : List T} where
  all_of : (passed : List ℕ) (groups : List Opened) (trees : Forest)
      → stack ≡ [] → rest ≡ [] → source ≡ passed ++ rest → Reading opens took base source passed sink stack groups trees
      → Reads base source rest at first groups trees → ReadsAll took base source sink
  all_of passed [] trees none done whole h reads = record {
    stream = trees;
    parses = reads_all base source rest at first trees reads done;
    takes = subst (λ s. took sink (taken_with base source source s (flattening trees))) (ap reverse none)
        (subst (λ p. took sink (taken_with base source p (reverse stack) (flattening trees)))
        (sym (whole ∙ (ap (λ r. passed ++ r) done ∙ append-nil passed))) h.takes);
  }
  all_of passed (x ∷ groups) trees none done whole h reads =
      let clash : [] ≡ (x.delimiter, x.lo) ∷ openers_of groups = sym (ap (λ s. map opens (reverse s)) none)
      ∙ h.around in
      cc

  pub reads_ok : {E : Type 0} (result : Result (Unit {0}) E)
      → ReadsTo opens took base source rest at first sink stack → OnOk result ((rest ≡ []) × (stack ≡ []))
      → OnOk result (ReadsAll took base source sink)
  reads_ok result h =
      on_ok result (λ ends. all_of h.passed h.groups h.trees ends.1 ends.0 h.whole h.takes h.reads)

  pub reads_refused : (stray : Option Found) (result : Result (Unit {0}) ParseError)
      → ReadsTo opens took base source rest at first sink stack → Stops opens first rest stack stray
      → (rest ≢ [] → IfErr result (IsFaultFor at (Unit {0})))
      → (rest ≡ [] → IfErr result
      (λ error. (groups : List Opened) → map opens (reverse stack) ≡ openers_of groups → IsOpenFault groups error))
      → IfErr result (IsFault base source)
  reads_refused stray (Ok unit) h stop stuck stays = tt
  reads_refused (Some piece) (Err error) h stop stuck stays =
      let less = piece_shortens first (kind_of piece.kind stop.0.front) stop.0.front stop.0.rest stop.0.stands in
      let more : rest ≢ [] = λ none. let clash : length rest ≡ 0 = ap length none in
      absurd (omega (arith, clash, ap length stop.0.whole, less)) in
      fault_is base source at (Unit {0}) error
      (λ u. stray_at base source rest stop.0.front stop.0.rest at first h.groups h.trees piece.kind h.reads stop.0.whole
      stop.0.stands (stop.1 h.groups h.takes.around)) (stuck more)
  reads_refused None (Err error) h none stuck stays = by_rest rest refl
    where
      by_rest : (left : List ℕ) → rest ≡ left → IsFault base source error
      by_rest [] e = open_at base source at first h.groups h.trees error
          (subst (λ r. Reads base source r at first h.groups h.trees) e h.reads) (stays e h.groups h.takes.around)
      by_rest (c ∷ left) e =
          let more : rest ≢ [] = λ done. let clash : c ∷ left ≡ [] = sym e ∙ done in cc in
          fault_is base source at (Unit {0}) error
          (λ u. reads_stuck base source rest at first h.groups h.trees h.reads more none) (stuck more)

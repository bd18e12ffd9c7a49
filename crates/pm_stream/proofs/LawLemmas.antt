-- A source has at most one cover. It parses or has a fault, never both, and the fault has one position.
use Rattle.std.proofs.Common.{◌≡◌, ◌≢◌, ◌⊎◌, inl, inr, ℕ, ◌+◌, ◌<◌, Bool, true, false, List, [], ◌∷◌, ◌++◌, length}
use Rattle.std.proofs.Common.{refl, sym, ap, ap₂, ◌∙◌, subst, arith, append_assoc, append-nil, suc, zero, Some, Result}
use Rattle.std.proofs.Common.{Ok, Err, IfOk, IfErr}
use Rattle.std.proofs.Common.{None as Nothing}
use Rattle.lexical.specs.Piece.{Kind, Piece, FrontMark, Gap, Doc, Open, Close, Leaf, IsPiece, HasNoPiece}
use Rattle.lexical.specs.Cover.{onto, width, StandBefore, IsCover}
use Rattle.lexical.specs.PieceFinder.{Found, find_piece}
use Rattle.lexical.proofs.PieceLemmas.{one_piece, piece_from_found, none_from_found}
use Rattle.lexical.proofs.PieceFacts.{piece_not_empty, piece_shortens}
use Rattle.pm_token.specs.declared.delimiters.Delimiter.{Delimiter}
use Rattle.pm_token.specs.declared.delimiters.Delimiter.TheVariants.{Parenthesis, Brace, Bracket, None}
use Rattle.pm_stream.specs.Delimited.{delimiter_of}
use Rattle.pm_stream.specs.Events.{Event, Closes, events_onto, expansion, Balanced, CanGoOn}
use Rattle.pm_stream.specs.Forest.{Forest, nil, leaf, group, flattening, chain}
use Rattle.pm_token.specs.Outcome.{IfLex}
use Rattle.pm_token.specs.declared.errors.ParseError.{ParseError}
use Rattle.pm_token.specs.declared.errors.ParseError.TheVariants.{Lex, MapFull, Memory}
use Rattle.pm_stream.specs.Parsing.{ParsesTo, is_first, StopsAt, FaultAt, HasNoFault, IsOnlyFault, ReportsFault}
use Rattle.pm_stream.specs.Fault.{IsFault}
use Rattle.pm_stream.specs.OpenGroups.{Opened, unclosed_onto, FitsInnermost}
use Rattle.pm_stream.proofs.CoverLemmas.{expansion-append}
use Rattle.pm_stream.proofs.DocLemmas.{doc_trees, doc_trees-events}
use Rattle.pm_stream.proofs.EventLemmas.{one_stream, flattening_balanced, one_last_opener, balanced_has_none}
use Rattle.pm_stream.proofs.EventLemmas.{unclosed-joined}
use Rattle.pm_stream.specs.Reading.{Reads}
use Rattle.pm_stream.proofs.ParserLemmas.{reads_none, reads_more, reads_all, reads_open}
use Rattle.pm_stream.proofs.ParserLemmas.{reads_stuck, reads_stray}

-- a piece with which a text begins
pub record Front (first : Bool) (text : List ℕ) : Type 0 where
  pub kind : Kind
  pub piece : List ℕ
  pub rest : List ℕ
  pub whole : text ≡ piece ++ rest
  pub stands : IsPiece first kind piece rest

-- a text begins with a piece, or with none
front_or_none : (first : Bool) (text : List ℕ) (o : Found) → find_piece first text ≡ o
    → Front first text ⊎ HasNoPiece first text
front_or_none first text Nothing e = inr (none_from_found first text e)
front_or_none first text (Some x) e =
    let is = piece_from_found first text x.1 x.2 x.0 e in
    inl (record { kind = x.0; piece = x.1; rest = x.2; whole = is.0; stands = is.1 })

-- ---- two covers of one source

abbrev at_front : Bool → List Piece → Bool
at_front first [] = first
at_front first (u ∷ us) = false

at_front-false : (us : List Piece) → at_front false us ≡ false
at_front-false [] = refl
at_front-false (u ∷ us) = refl

at_front-true : (us : List Piece) → at_front true us ≡ is_first us
at_front-true [] = refl
at_front-true (u ∷ us) = refl

-- the first pieces are the beginning of the second ones, which go on from r to s
record GoesOn (first : Bool) (us vs : List Piece) (r s : List ℕ) : Type 0 where
  next : Piece
  later : List Piece
  split : vs ≡ us ++ (next ∷ later)
  whole : r ≡ next.1 ++ onto later s
  stands : IsPiece (at_front first us) next.0 next.1 (onto later s)

goes_later : (first : Bool) (u : Piece) (us vs : List Piece) (v : Piece) (r s : List ℕ) → u ≡ v
    → GoesOn false us vs r s → GoesOn first (u ∷ us) (v ∷ vs) r s
goes_later first u us vs v r s same h = record {
  next = h.next;
  later = h.later;
  split = ap₂ (λ y ys. y ∷ ys) (sym same) h.split;
  whole = h.whole;
  stands = subst (λ b. IsPiece b h.next.0 h.next.1 (onto h.later s)) (at_front-false us) h.stands;
}

-- of two partial covers, one goes on from the other
compare_covers : (first : Bool) (us vs : List Piece) (r s : List ℕ) → StandBefore first us r
    → StandBefore first vs s → onto us r ≡ onto vs s
    → GoesOn first us vs r s ⊎ (GoesOn first vs us s r ⊎ ((us ≡ vs) × (r ≡ s)))
compare_covers first [] [] r s g h e = inr (inr (refl, e))
compare_covers first [] (v ∷ vs) r s g h e =
    inl (record { next = v; later = vs; split = refl; whole = e; stands = h.0 })
compare_covers first (u ∷ us) [] r s g h e =
    inr (inl (record { next = u; later = us; split = refl; whole = sym e; stands = g.0 }))
compare_covers first (u ∷ us) (v ∷ vs) r s g h e =
    let same = one_piece first u.0 v.0 u.1 v.1 (onto us r) (onto vs s) g.0 h.0 e in
    let head : u ≡ v = ap₂ (λ k p. (k, p)) same.0 same.1 in
    elim (compare_covers false us vs r s g.1 h.1 same.2) [
      | inl more ↦ inl (goes_later first u us vs v r s head more)
      | inr other ↦ elim other [
        | inl more ↦ inr (inl (goes_later first v vs us u s r (sym head) more))
        | inr both ↦ inr (inr (ap₂ (λ y ys. y ∷ ys) head both.0, both.1))
      ]
    ]

goes_not_from_end : (first : Bool) (us vs : List Piece) (r s : List ℕ) → GoesOn first us vs r s → r ≢ []
goes_not_from_end first us vs r s h e =
    let begin = piece_not_empty (at_front first us) h.next.0 h.next.1 (onto h.later s) h.stands in
    let clash : begin.0 ∷ (begin.1 ++ onto h.later s) ≡ [] = ap (λ p. p ++ onto h.later s) (sym begin.2)
    ∙ (sym h.whole ∙ e) in
    cc

pub one_cover : (source : List ℕ) (us vs : List Piece) → IsCover us source → IsCover vs source → us ≡ vs
one_cover source us vs g h = elim (compare_covers true us vs [] [] g.stand h.stand (sym g.whole ∙ h.whole)) [
  | inl more ↦ absurd (goes_not_from_end true us vs [] [] more refl)
  | inr other ↦ elim other [
    | inl more ↦ absurd (goes_not_from_end true vs us [] [] more refl)
    | inr both ↦ both.0
  ]
]

-- a source parses to at most one stream
pub one_parse : (base : ℕ) (source : List ℕ) (s t : Forest) → ParsesTo base source s → ParsesTo base source t
    → s ≡ t
one_parse base source s t g h =
    one_stream s t (g.expands ∙ (ap (expansion base) (one_cover source g.pieces h.pieces g.covers h.covers)
    ∙ sym h.expands))

-- ---- the fault has one position, and a source with a fault doesn't parse

front_goes_on : (es fs : List Event) → CanGoOn (es ++ fs) → CanGoOn es
front_goes_on es fs h = (fs ++ h.0, subst Balanced (append_assoc es fs h.0) h.1)

-- pieces that can go on pass no position where reading stops
passes_none : (base : ℕ) (source : List ℕ) (position : ℕ) (h : StopsAt base source position) (vs : List Piece)
    (s : List ℕ)
    → GoesOn true h.pieces vs h.rest s → CanGoOn (expansion base vs) → ⊥
passes_none base source position h vs s more goes =
    let x = more.next in
    let stands = subst (λ b. IsPiece b x.0 x.1 (onto more.later s)) (at_front-true h.pieces) more.stands in
    elim h.stuck [
      | inl none ↦ none x.0 x.1 (onto more.later s) more.whole stands
      | inr closer ↦
          let same =
          one_piece (is_first h.pieces) x.0 (Close closer.character) x.1 closer.front
          (onto more.later s) closer.rest stands closer.stands (sym more.whole ∙ closer.whole) in
          let later = expansion (base + width h.pieces + length x.1) more.later in
          let event : expansion (base + width h.pieces) (x ∷ more.later)
          ≡ Closes (delimiter_of closer.character) (position + length closer.front) ∷ later =
          ap₂ (λ k p. events_onto (base + width h.pieces) k p later) same.0 same.1
          ∙ ap (λ n. Closes (delimiter_of closer.character) (n + length closer.front) ∷ later) (sym h.at) in
          let split : expansion base vs ≡ (expansion base h.pieces
          ++ (Closes (delimiter_of closer.character) (position + length closer.front) ∷ [])) ++ later =
          ap (expansion base) more.split
          ∙ (expansion-append base h.pieces (x ∷ more.later) ∙ (ap (λ es. expansion base h.pieces ++ es) event
          ∙ sym (append_assoc (expansion base h.pieces)
          (Closes (delimiter_of closer.character) (position + length closer.front) ∷ []) later))) in
          closer.stray (front_goes_on _ later (subst CanGoOn split goes))
    ]

-- a cover of the whole source that can go on leaves no position where reading stops
stops_not : (base : ℕ) (source : List ℕ) (position : ℕ) → StopsAt base source position → (vs : List Piece)
    → IsCover vs source → CanGoOn (expansion base vs) → ⊥
stops_not base source position h vs c goes =
    elim (compare_covers true h.pieces vs h.rest [] h.covers.stand c.stand (sym h.covers.whole ∙ c.whole)) [
      | inl more ↦ passes_none base source position h vs [] more goes
      | inr other ↦ elim other [
        | inl more ↦ goes_not_from_end true vs h.pieces [] h.rest more refl
        | inr both ↦ h.more both.1
      ]
    ]

pub one_fault : (base : ℕ) (source : List ℕ) (j k : ℕ) → FaultAt base source j → FaultAt base source k → j ≡ k
one_fault base source j k (inl g) (inl h) =
    elim (compare_covers true g.pieces h.pieces g.rest h.rest g.covers.stand h.covers.stand
    (sym g.covers.whole ∙ h.covers.whole)) [
      | inl more ↦ absurd (passes_none base source j g h.pieces h.rest more h.goes_on)
      | inr other ↦ elim other [
        | inl more ↦ absurd (passes_none base source k h g.pieces g.rest more g.goes_on)
        | inr both ↦ g.at ∙ (ap (λ us. base + width us) both.0 ∙ sym h.at)
      ]
    ]
one_fault base source j k (inl g) (inr h) = absurd (stops_not base source j g h.pieces h.covers h.goes_on)
one_fault base source j k (inr g) (inl h) = absurd (stops_not base source k h g.pieces g.covers g.goes_on)
one_fault base source j k (inr g) (inr h) =
    let same = ap (expansion base) (one_cover source g.pieces h.pieces g.covers h.covers) in
    one_last_opener (expansion base g.pieces) g.front g.back h.front h.back g.delimiter h.delimiter j k g.goes_on
    g.split g.closed (same ∙ h.split) h.closed

pub parses_or_not : (base : ℕ) (source : List ℕ) (stream : Forest) (k : ℕ) → ParsesTo base source stream
    → FaultAt base source k → ⊥
parses_or_not base source stream k g (inl h) =
    stops_not base source k h g.pieces g.covers
    ([], subst Balanced (g.expands ∙ sym (append-nil _)) (flattening_balanced stream))
parses_or_not base source stream k g (inr h) =
    let same = ap (expansion base) (one_cover source g.pieces h.pieces g.covers h.covers) in
    balanced_has_none (flattening stream) h.front h.back h.delimiter k (flattening_balanced stream)
    (g.expands ∙ (same ∙ h.split)) h.closed

-- ---- a source parses or has a fault

abbrev pub HasOutcome : ℕ → List ℕ → Type 0
HasOutcome base source =
    ((stream : Forest) × ParsesTo base source stream) ⊎ ((position : ℕ) × FaultAt base source position)

-- what was read with one more piece, unless the piece is a stray closer
abbrev Moved : Kind → List ℕ → ℕ → List Opened → Forest → Type 0
Moved k p at groups trees =
    ((new : List Opened) × (more : Forest)
    × (unclosed_onto new more [] ≡ unclosed_onto groups trees (events_onto at k p [])))
    ⊎ ((c : ℕ) × (k ≡ Close c) × (FitsInnermost (delimiter_of c) groups → ⊥))

same_or_not : (d e : Delimiter) → (d ≡ e) ⊎ (d ≢ e)
same_or_not Parenthesis Parenthesis = inl refl
same_or_not Brace Brace = inl refl
same_or_not Bracket Bracket = inl refl
same_or_not None None = inl refl
same_or_not _ _ = inr (λ e. cc)

ends_group : (p : List ℕ) (at c : ℕ) (x : Opened) (groups : List Opened) (trees : Forest)
    → (x.delimiter ≡ delimiter_of c) ⊎ (x.delimiter ≢ delimiter_of c)
    → Moved (Close c) p at (x ∷ groups) trees
ends_group p at c x groups trees (inl same) = inl (
  groups,
  chain x.outer (group x.delimiter x.lo (at + length p) trees nil),
  unclosed-joined groups x.outer (group x.delimiter x.lo (at + length p) trees nil) []
      ∙ ap (λ d. unclosed_onto (x ∷ groups) trees (Closes d (at + length p) ∷ [])) same,
)
ends_group p at c x groups trees (inr apart) = inr (c, refl, apart)

moves_on : (k : Kind) (p : List ℕ) (at : ℕ) (groups : List Opened) (trees : Forest) → Moved k p at groups trees
moves_on FrontMark p at groups trees = inl (groups, trees, refl)
moves_on Gap p at groups trees = inl (groups, trees, refl)
moves_on (Doc inner text) p at groups trees =
    let doc = doc_trees at (at + length p) inner text in
    inl (
      groups,
      chain trees doc,
      unclosed-joined groups trees doc []
          ∙ ap (unclosed_onto groups trees) (doc_trees-events at (at + length p) inner text []),
    )
moves_on (Open c) p at groups trees =
    inl (record { outer = trees; delimiter = delimiter_of c; lo = at } ∷ groups, nil, refl)
moves_on (Close c) p at [] trees = inr (c, refl, λ fits. fits)
moves_on (Close c) p at (x ∷ groups) trees =
    ends_group p at c x groups trees (same_or_not x.delimiter (delimiter_of c))
moves_on (Leaf token) p at groups trees =
    inl (
      groups,
      chain trees (leaf token at (at + length p) nil),
      unclosed-joined groups trees (leaf token at (at + length p) nil) [],
    )

ends : (base : ℕ) (source rest : List ℕ) (at : ℕ) (first : Bool) (groups : List Opened) (trees : Forest)
    → Reads base source rest at first groups trees → rest ≡ [] → HasOutcome base source
ends base source rest at first [] trees h done = inl (trees, reads_all base source rest at first trees h done)
ends base source rest at first (x ∷ groups) trees h done =
    inr (x.lo, reads_open base source rest at first x groups trees h done)

empty_or_not : (xs : List ℕ) → (xs ≡ []) ⊎ (xs ≢ [])
empty_or_not [] = inl refl
empty_or_not (x ∷ xs) = inr (λ e. cc)

goes : (n base : ℕ) (source rest : List ℕ) (at : ℕ) (first : Bool) (groups : List Opened) (trees : Forest)
    → length rest < n → Reads base source rest at first groups trees → HasOutcome base source
goes zero base source rest at first groups trees l h = absurd (omega arith)
goes (suc n) base source rest at first groups trees l h = elim (front_or_none first rest (find_piece first rest) refl) [
  | inl x ↦
      let shorter : length x.rest < n =
      omega (arith, ap length x.whole, piece_shortens first x.kind x.piece x.rest x.stands) in
      elim (moves_on x.kind x.piece at groups trees) [
        | inl new ↦ goes n base source x.rest (at + length x.piece) false new.0 new.1 shorter
            (reads_more base source rest x.piece x.rest at (at + length x.piece) first groups new.0 trees new.1 x.kind h
            x.whole x.stands refl new.2)
        | inr stray ↦ inr (
          at,
          reads_stray base source rest x.piece x.rest at first groups trees stray.0 h x.whole
              (subst (λ k. IsPiece first k x.piece x.rest) stray.1 x.stands) stray.2,
        )
      ]
  | inr none ↦ elim (empty_or_not rest) [
    | inl done ↦ ends base source rest at first groups trees h done
    | inr more ↦ inr (at, reads_stuck base source rest at first groups trees h more none)
  ]
]

pub has_outcome : (base : ℕ) (source : List ℕ) → HasOutcome base source
has_outcome base source =
    goes (suc (length source)) base source source base true [] nil (omega arith) (reads_none base source)

-- ---- the results of parsing, and that there are no others

only_fault : (base : ℕ) (source : List ℕ) (position : ℕ) → FaultAt base source position
    → IsOnlyFault base source position
only_fault base source position h = (
  λ stream parsed. parses_or_not base source stream position parsed h,
  λ other fault. one_fault base source other position fault h,
)

pub parsed_faultless : (base begin : ℕ) (source : List ℕ) (stream : Forest) → base ≡ begin
    → ParsesTo base source stream → HasNoFault begin source
parsed_faultless base begin source stream e h = λ position.
    parses_or_not begin source stream position (subst (λ n. ParsesTo n source stream) e h)

pub refused_only : {A : Type 0} (base begin : ℕ) (source : List ℕ) (result : Result A ParseError) → base ≡ begin
    → IfErr result (IsFault base source)
    → IfErr result (λ error. IfLex error (λ fault. IsOnlyFault begin source fault.lo))
refused_only base begin source (Ok value) e h = tt
refused_only base begin source (Err (Lex fault)) e h =
    only_fault begin source fault.lo (subst (λ n. FaultAt n source fault.lo) e h.1)
refused_only base begin source (Err MapFull) e h = tt
refused_only base begin source (Err (Memory error)) e h = tt

-- if each value means that the source parses, and each error is its fault, the result reports its fault
pub reported : {A : Type 0} (P : A → Type 0) (base begin : ℕ) (source : List ℕ) (result : Result A ParseError)
    → ((value : A) → P value → (stream : Forest) × ParsesTo base source stream) → base ≡ begin
    → IfOk result P → IfErr result (IsFault base source) → ReportsFault IfLex begin source result
reported P base begin source (Ok value) of e h is =
    record { apart = parsed_faultless base begin source (of value h).0 e (of value h).1; lex = tt; only = tt }
reported P base begin source (Err (Lex fault)) of e h is =
    let at = subst (λ n. FaultAt n source fault.lo) e is.1 in
    record { apart = tt; lex = (is.0, at); only = only_fault begin source fault.lo at }
reported P base begin source (Err MapFull) of e h is = record { apart = tt; lex = tt; only = tt }
reported P base begin source (Err (Memory error)) of e h is = record { apart = tt; lex = tt; only = tt }

pub parsed_reported : (base begin : ℕ) (source : List ℕ) (result : Result Forest ParseError) → base ≡ begin
    → IfOk result (ParsesTo base source) → IfErr result (IsFault base source)
    → ReportsFault IfLex begin source result
parsed_reported base begin source result =
    reported (ParsesTo base source) base begin source result (λ stream h. (stream, h))

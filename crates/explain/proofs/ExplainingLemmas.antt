-- What was read, and how reading ends.
use Rattle.std.proofs.Common.{◌≡◌, ◌≢◌, ℕ, ◌+◌, Bool, true, List, [], ◌∷◌, ◌++◌, length, Option, Some, None}
use Rattle.std.proofs.Common.{inl, inr}
use Rattle.std.proofs.Common.{MatchOption, refl, sym, ap, ◌∙◌, subst, arith, append_assoc, length-append}
use Rattle.std.specs.List.{AllByRecursion}
use Rattle.lexical.specs.Cover.{onto, width}
use Rattle.lexical.specs.Found.{IsPieceAt, kind_of}
use Rattle.lexical.specs.Piece.{Piece, Close, IsPiece, HasNoPiece}
use Rattle.lexical.specs.declared.piece.Piece.{Piece as Found}
use Rattle.lexical.specs.declared.piece.PieceKind.{PieceKind}
use Rattle.lexical.specs.declared.piece.PieceKind.TheVariants as kinds
use Rattle.pm_token.specs.declared.delimiters.Delimiter.{Delimiter}
use Rattle.pm_token.specs.declared.delimiters.Delimiter.TheVariants.{Parenthesis, Brace, Bracket}
use Rattle.pm_token.specs.declared.delimiters.Delimiter.TheVariants as delimiters
use Rattle.lexical.specs.Delimiter.{is_opener}
use Rattle.std.specs.Str.{encode_utf8_all}
use Rattle.lexical.proofs.TextLemmas.{front_len}
use Rattle.std.proofs.lemmas.Str.{encodes-append}
use Rattle.pm_span.specs.Extent.{Extent}
use Rattle.pm_stream.specs.Delimited.{delimiter_of, opening}
use Rattle.pm_stream.specs.Events.{expansion}
use Rattle.pm_stream.specs.Fault.{IsStray}
use Rattle.pm_stream.specs.Forest.{Forest}
use Rattle.pm_stream.specs.Parsing.{FaultAt}
use Rattle.pm_stream.specs.OpenGroups.{Opened, FitsInnermost, unclosed_onto}
use Rattle.pm_stream.specs.Reading.{Reads, ReadsTo, openers_of}
use Rattle.pm_stream.specs.Taken.{CanOpen, IsTakenTo, Taken, Waiting}
use Rattle.pm_stream.specs.declared.reading.Lexed.{Lexed}
use Rattle.pm_stream.proofs.ParserLemmas.{reads_all, reads_open, reads_stray, reads_stuck}
use Rattle.explain.specs.Explained.{IsExplained, IsOpenerOf, IsStretch, IsStuck, Parses, SaysLeftOpen}
use Rattle.explain.specs.Open.{LeavesOpen, Loses, RefusesFor, WaitsAs, opener_of, refusal, waiting}
use Rattle.explain.specs.declared.explained.Explained.{Explained}
use Rattle.explain.specs.Remembered.{Remembers}
use Rattle.explain.specs.declared.explained.Opener.{Opener}
use Rattle.explain.specs.declared.explained.Stretch.{Stretch}
use Rattle.explain.specs.declared.explaining.Openers.{Openers}
use Rattle.explain.proofs.OpenLemmas.{leaves_open}
use Rattle.explain.proofs.StandLemmas.{AllStand, all_lost}

-- the texts of the pieces, and then the rest
onto_rest : (pieces : List Piece) (rest : List ℕ) → onto pieces rest ≡ onto pieces [] ++ rest
onto_rest [] rest = refl
onto_rest (x ∷ pieces) rest =
    ap (λ t. x.1 ++ t) (onto_rest pieces rest) ∙ sym (append_assoc x.1 (onto pieces []) rest)

onto_width : (pieces : List Piece) → length (onto pieces []) ≡ width pieces
onto_width [] = refl
onto_width (x ∷ pieces) = omega (arith, length-append x.1 (onto pieces []), onto_width pieces)

-- what was read, and the openers that are left open
pub record ReadsOpen (base : ℕ) (source rest : List ℕ) (at : ℕ) (first : Bool) (openers : List Opener) : Type 0 where
  pub groups : List Opened
  pub trees : Forest
  pub reads : Reads base source rest at first groups trees
  pub around : waiting openers ≡ openers_of groups

module _ (base : ℕ) (source rest : List ℕ) (at : ℕ) (first : Bool) (openers : List Opener)
    (h : ReadsOpen base source rest at first openers) where
  abbrev pub read : List ℕ
  read = onto h.reads.pieces []

  pub read_whole : source ≡ read ++ rest
  read_whole = h.reads.covers.whole ∙ onto_rest h.reads.pieces rest

  pub read_at : at ≡ base + length read
  read_at = omega (arith, h.reads.position, onto_width h.reads.pieces)

  leaves : LeavesOpen (expansion base h.reads.pieces) (waiting openers)
  leaves =
      subst (λ es. LeavesOpen es (waiting openers)) h.reads.expands
      (subst (LeavesOpen (unclosed_onto h.groups h.trees [])) (sym h.around) (leaves_open h.groups h.trees))

  pub stuck_explained : (x : Explained) → rest ≢ [] → HasNoPiece first rest
      → ((base : ℕ) (text_before : List ℕ) → source ≡ text_before ++ rest → at ≡ base + length text_before
      → IsStuck base text_before first rest x)
      → WaitsAs (waiting openers) x.innermost x.outer.items → AllStand base source x → IsExplained base source x
  stuck_explained x more none stuck waiting_openers stand = record {
    pieces = h.reads.pieces;
    text_before = read;
    rest = rest;
    whole = read_whole;
    covers = h.reads.covers;
    waits = waiting openers;
    leaves = leaves;
    waiting_openers = waiting_openers;
    inmost = stand.0;
    others = stand.1;
    fault = subst (FaultAt base source)
        (read_at ∙ sym (ap (λ s. s.lo) (stuck base read read_whole read_at).before.span))
        (reads_stuck base source rest at first h.groups h.trees h.reads more none);
    because = inl (subst (λ b. IsStuck base read b rest x) (sym h.reads.begins) (stuck base read read_whole read_at));
  }

  -- if no opener is left open, the source parses
  pub parsed : rest ≡ [] → waiting openers ≡ [] → Parses base source
  parsed done none = by_groups h.groups h.reads (sym h.around ∙ none)
    where
      by_groups : (groups : List Opened) → Reads base source rest at first groups h.trees → openers_of groups ≡ []
          → Parses base source
      by_groups [] reads e = (h.trees, reads_all base source rest at first h.trees reads done)
      by_groups (g ∷ groups) reads e = absurd (cc)

  -- if an opener is left open, the innermost one explains the fault
  pub left_explained : (x : Explained) → rest ≡ [] → SaysLeftOpen x
      → WaitsAs (waiting openers) x.innermost x.outer.items → AllStand base source x → IsExplained base source x
  left_explained x done says waiting_openers stand = record {
    pieces = h.reads.pieces;
    text_before = read;
    rest = rest;
    whole = read_whole;
    covers = h.reads.covers;
    waits = waiting openers;
    leaves = leaves;
    waiting_openers = waiting_openers;
    inmost = stand.0;
    others = stand.1;
    fault = subst (FaultAt base source) (sym (ap (λ s. s.span.lo) says.before))
        (by_groups h.groups h.reads (sym h.around ∙ subst (λ o. WaitsAs
        (waiting openers) o x.outer.items) says.innermost waiting_openers));
    because = inr (inr (record { done = done; says = says }));
  }
    where
      by_groups : (groups : List Opened) → Reads base source rest at first groups h.trees
          → openers_of groups ≡ (says.opener.delimiter, says.opener.at.span.lo) ∷ waiting x.outer.items
          → FaultAt base source says.opener.at.span.lo
      by_groups [] reads e = absurd (cc)
      by_groups (g ∷ groups) reads e =
          let head : ◌≡◌ {A = Waiting} (g.delimiter, g.lo) (says.opener.delimiter, says.opener.at.span.lo) = cc in
          subst (FaultAt base source) (ap (λ w. w.1) head)
          (reads_open base source rest at first g groups h.trees reads done)

  -- a closer that matches no opener, or not the innermost one, explains the fault
  pub refused_explained : (x : Explained) (piece : Found) (found : IsPieceAt first rest piece)
      → IsStray piece.kind h.groups → x.reason ≡ refusal x.innermost
      → WaitsAs (waiting openers) x.innermost x.outer.items → AllStand base source x
      → IsStretch base read [] x.before → IsStretch base read found.front x.at → IsExplained base source x
  refused_explained x piece found stray reason waiting_openers stand before here =
      let closer = closer_of piece.kind stray in
      let stands = subst (λ k. IsPiece first (kind_of k found.front) found.front found.rest) closer.1 found.stands in
      record {
        pieces = h.reads.pieces;
        text_before = read;
        rest = rest;
        whole = read_whole;
        covers = h.reads.covers;
        waits = waiting openers;
        leaves = leaves;
        waiting_openers = waiting_openers;
        inmost = stand.0;
        others = stand.1;
        fault = subst (FaultAt base source) (read_at ∙ (omega (arith) ∙ sym (ap (λ s. s.lo) before.span)))
            (reads_stray base source rest found.front found.rest at first h.groups h.trees closer.0 h.reads found.whole
            stands closer.2);
        because = inr (inl (record {
          closer = closer.0;
          part = found.front;
          after = found.rest;
          split = found.whole;
          stands = subst (λ b. IsPiece b (Close closer.0) found.front found.rest) (sym h.reads.begins) stands;
          refuses = subst (λ r. RefusesFor (delimiter_of closer.0) r x.innermost) (sym reason)
              (refuses_for (delimiter_of closer.0) x.innermost h.groups
              (subst (λ w. WaitsAs w x.innermost x.outer.items) h.around waiting_openers) closer.2);
          before = before;
          at = here;
        }));
      }
    where
      closer_of : (kind : PieceKind) → IsStray kind h.groups
          → (c : ℕ) × (kind ≡ kinds.Closer c) × (FitsInnermost (delimiter_of c) h.groups → ⊥)
      closer_of kinds.FrontMark stray = absurd stray
      closer_of kinds.Gap stray = absurd stray
      closer_of (kinds.Doc inner text) stray = absurd stray
      closer_of (kinds.Opener c) stray = absurd stray
      closer_of (kinds.Closer c) stray = (c, refl, stray)
      closer_of kinds.Literal stray = absurd stray
      closer_of (kinds.Mark joint mark) stray = absurd stray
      closer_of (kinds.Name raw name) stray = absurd stray

      refuses_for : (d : Delimiter) (innermost : Option Opener) (groups : List Opened)
          → WaitsAs (openers_of groups) innermost x.outer.items → (FitsInnermost d groups → ⊥)
          → RefusesFor d (refusal innermost) innermost
      refuses_for d None groups w apart = tt
      refuses_for d (Some o) [] w apart =
          let clash : ◌≡◌ {A = List Waiting} [] ((o.delimiter, o.at.span.lo) ∷ waiting x.outer.items) = w in absurd (cc)
      refuses_for d (Some o) (g ∷ groups) w apart = λ e.
          let head : ◌≡◌ {A = Waiting} (g.delimiter, g.lo) (o.delimiter, o.at.span.lo) = cc in
          apart (ap (λ z. z.0) head ∙ e)

pub extent_of : (lo hi a b : ℕ) → lo ≡ a → hi ≡ b
    → ◌≡◌ {A = Extent} (record { lo = lo; hi = hi }) (record { lo = a; hi = b })
extent_of lo hi a b p q = rw (p, q)

-- what the loop over pieces has read
pub opened_by : {S : Type 0} (took : S → Taken Opener → Type 0) (base : ℕ) (source rest : List ℕ) (at : ℕ)
    (first : Bool) (sink : S) (openers : List Opener)
    → ReadsTo opener_of took base source rest at first sink openers → ReadsOpen base source rest at first openers
opened_by took base source rest at first sink openers h =
    record { groups = h.groups; trees = h.trees; reads = h.reads; around = h.takes.around }

-- an opener is one character, which has this delimiter
pub one_opener : (d : Delimiter) (front : List ℕ) → front ≡ opening d → length front ≡ 1
    → (c : ℕ) × (front ≡ c ∷ []) × (is_opener c ≡ true) × (d ≡ delimiter_of c)
one_opener Parenthesis front is one = (40, is, refl, refl)
one_opener Brace front is one = (123, is, refl, refl)
one_opener Bracket front is one = (91, is, refl, refl)
one_opener delimiters.None front is one = absurd (omega (arith, one, ap length is))

-- the number of bytes before the piece
pub rest_bytes : (openers : Openers) (lexed : Lexed) (to : IsTakenTo Remembers openers lexed)
    → length (encode_utf8_all to.before.passed) + length lexed.text.now ≡ length openers.text.now
rest_bytes openers lexed to =
    front_len openers.text.now lexed.text.now to.before.passed to.takes.utf8 to.is.utf8 (sym to.takes.text ∙ to.source)

-- an opener has the bytes and the span of its piece
pub opener_is : (openers : Openers) (lexed : Lexed) (d : Delimiter) (can : CanOpen Remembers openers lexed d)
    (at : Stretch) → at.start ≡ length (encode_utf8_all can.to.before.passed) → at.end ≡ at.start + lexed.piece.bytes
    → at.span ≡ record { lo = lexed.at; hi = lexed.at + length can.to.is.found.front }
    → IsOpenerOf can.to.before.base can.to.before.source (record { delimiter = d; at = at })
opener_is openers lexed d can at starts ends spans =
    let base = can.to.before.base in
    let text_before = can.to.before.passed in
    let found = can.to.is.found in
    let one = one_opener d found.front can.front can.one in
    record {
      text_before = text_before;
      character = one.0;
      after = found.rest;
      whole = can.to.source ∙ ap (λ t. text_before ++ t) (found.whole ∙ ap (λ p. p ++ found.rest) one.1);
      opens = one.2;
      delimiter = one.3;
      at = subst (λ p. IsStretch base text_before p at) one.1 (record {
        start = starts;
        end = omega (
          arith,
          ends,
          starts,
          found.bytes,
          ap length (encodes-append text_before found.front),
          length-append (encode_utf8_all text_before) (encode_utf8_all found.front),
        );
        span = spans ∙ extent_of lexed.at (lexed.at + length found.front) (base + length text_before)
            (base + length (text_before ++ found.front)) can.to.at
            (omega (arith, can.to.at, length-append text_before found.front));
      });
    }

-- the reason why reading stopped
module _ (first : Bool) (rest : List ℕ) (openers : List Opener) (stray : Option Found)
    (stops : MatchOption stray (HasNoPiece first rest) (λ piece. IsPieceAt first rest piece × ((groups : List Opened)
    → waiting openers ≡ openers_of groups → IsStray piece.kind groups))) where
  pub stops_at : (closer : Found) → stray ≡ Some closer → IsPieceAt first rest closer × ((groups : List Opened)
      → waiting openers ≡ openers_of groups → IsStray closer.kind groups)
  stops_at closer is = subst (λ s. MatchOption s (HasNoPiece first rest) (λ piece. IsPieceAt first rest piece
      × ((groups : List Opened) → waiting openers ≡ openers_of groups → IsStray piece.kind groups))) is stops

  pub stops_there : stray ≡ None → HasNoPiece first rest
  stops_there is = subst (λ s. MatchOption s (HasNoPiece first rest) (λ piece. IsPieceAt first rest piece
      × ((groups : List Opened) → waiting openers ≡ openers_of groups → IsStray piece.kind groups))) is stops

-- a text after two parts
pub whole_past : (text mid rest front part : List ℕ) → text ≡ front ++ mid → mid ≡ part ++ rest
    → text ≡ (front ++ part) ++ rest
whole_past text mid rest front part whole more =
    whole ∙ (ap (λ t. front ++ t) more ∙ sym (append_assoc front part rest))

-- the answer at the end of the text
pub left_answer : (base : ℕ) (source rest : List ℕ) (at : ℕ) (first : Bool) (openers : List Opener)
    → ReadsOpen base source rest at first openers → AllByRecursion (IsOpenerOf base source) openers → rest ≡ []
    → (answer : Option Explained)
    → MatchOption answer (waiting openers ≡ [])
    (λ x. SaysLeftOpen x × WaitsAs (waiting openers) x.innermost x.outer.items
    × Loses openers x.innermost x.outer.items)
    → MatchOption answer (Parses base source) (IsExplained base source)
left_answer base source rest at first openers h stand done None none =
    parsed base source rest at first openers h done none
left_answer base source rest at first openers h stand done (Some x) waiting_openers =
    left_explained base source rest at first openers h x done waiting_openers.0 waiting_openers.1
    (all_lost (IsOpenerOf base source) openers x.innermost x.outer.items waiting_openers.2 stand)

-- the answer for a text that begins at an equal position
pub answer_at : (base begin : ℕ) (source : List ℕ) (answer : Option Explained) → base ≡ begin
    → MatchOption answer (Parses base source) (IsExplained base source)
    → MatchOption answer (Parses begin source) (IsExplained begin source)
answer_at base begin source answer e h =
    subst (λ b. MatchOption answer (Parses b source) (IsExplained b source)) e h

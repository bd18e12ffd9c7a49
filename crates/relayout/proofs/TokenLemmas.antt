-- Texts with the same pieces except for white characters.
use Rattle.std.proofs.Common.{◌≡◌, ℕ, true, false, List, [], ◌∷◌, refl, sym, ap, ◌∙◌, inl, inr}
use Rattle.std.proofs.lemmas.Bool.{both_ways, cases_Bool, cond-true, cond-false}
use Rattle.lexical.specs.Cover.{IsCover}
use Rattle.lexical.specs.Piece.{Piece, FrontMark, Gap, Doc, Open, Close, Leaf}
use Rattle.pm_stream.specs.Events.{Event}
use Rattle.pm_stream.specs.Forest.{Forest, flattening}
use Rattle.pm_stream.specs.Parsing.{ParsesTo}
use Rattle.pm_stream.proofs.LawLemmas.{one_cover}
use Rattle.proc_macro2.specs.Laws.{Gives}
use Rattle.proc_macro2.proofs.EventSpans.{bare, piece_events, piece_event_onto, events_of_parsed, same_from_events}
use Rattle.relayout.specs.Written.{is_white_gap, solid_pieces}

-- a white character means no token
gap_says : (x : Piece) (es : List Event) → is_white_gap x ≡ true → piece_event_onto x.0 es ≡ es
gap_says (FrontMark, p) es gap = refl
gap_says (Gap, p) es gap = refl
gap_says (Doc inner text, p) es gap = absurd (both_ways false refl gap)
gap_says (Open c, p) es gap = absurd (both_ways false refl gap)
gap_says (Close c, p) es gap = absurd (both_ways false refl gap)
gap_says (Leaf token, p) es gap = absurd (both_ways false refl gap)

events_of_solid : (ps : List Piece) → piece_events (solid_pieces ps) ≡ piece_events ps
events_of_solid [] = refl
events_of_solid (x ∷ ps) = elim (cases_Bool (is_white_gap x)) [
  | inl gap ↦ ap piece_events (cond-true _ _ _ gap) ∙ (events_of_solid ps ∙ sym (gap_says x (piece_events ps) gap))
  | inr solid ↦ ap piece_events (cond-false _ _ _ solid) ∙ ap (piece_event_onto x.0) (events_of_solid ps)
]

pub keeps_tokens : (source text : List ℕ) (us vs : List Piece) → IsCover us source → IsCover vs text
    → solid_pieces vs ≡ solid_pieces us → (base first : ℕ) (stream : Forest) → ParsesTo first source stream
    → Gives base text stream
keeps_tokens source text us vs covers now same base first stream parses =
    let says : piece_events vs ≡ bare (flattening stream) =
    sym (events_of_solid vs) ∙ (ap piece_events same ∙ (events_of_solid us
    ∙ (ap piece_events (one_cover source us parses.pieces covers parses.covers)
    ∙ events_of_parsed first source stream parses))) in
    let x = same_from_events base stream vs says in
    record { parsed = x.0; parses = record { pieces = vs; covers = now; expands = x.1 }; same = x.2 }

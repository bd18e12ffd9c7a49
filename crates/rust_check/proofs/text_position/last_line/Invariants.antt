use denote.Shadow.{shadow}
use denote.Text.{Utf8}
use Rattle.rust_check.proofs.PlaceLemmas.{IsAt}
use Rattle.rust_check.proofs.text_position.last_line.Given as goal

abbrev pub invariant-loop-c : goal.invariant-loop-c
invariant-loop-c l = record { text : shadow (Utf8 l.front); at : IsAt l.text l.front l.rest.rest.now l.number }

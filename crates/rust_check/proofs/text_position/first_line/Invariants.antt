use denote.Shadow.{shadow}
use denote.Text.{Utf8}
use Rattle.rust_check.proofs.PlaceLemmas.{IsWithin}
use Rattle.rust_check.proofs.text_position.first_line.Given as goal

abbrev pub invariant-loop-c : goal.invariant-loop-c
invariant-loop-c l = record { text : shadow (Utf8 l.left); at : IsWithin l.text l.left l.rest.rest.now }

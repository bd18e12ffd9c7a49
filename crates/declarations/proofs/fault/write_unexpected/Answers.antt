use Rattle.std.proofs.Common.{◌++◌, ◌==◌, ◌∙◌, ◌≡◌, Bool, codes, eqb-true}
use Rattle.std.proofs.Common.{false, if◌then◌else◌, refl, sym, true, ℕ}
use Rattle.std.proofs.Output.{has_written_append, has_written_of_eq}
use Rattle.declarations.specs.ExpectedText.{expected_text}
use Rattle.declarations.specs.Fault.{unexpected_text}
use Rattle.declarations.specs.declared.expected.Expected.{Expected}
use Rattle.declarations.proofs.ExpectedTextLemmas.{err_not_ok}
use Rattle.declarations.proofs.fault.write_unexpected.Goals as goal

text_none : (set : Expected) (bits : ℕ) → bits ≡ set.bits → bits ≡ 0 → codes "not expected here" ≡ unexpected_text set
text_none set bits is none = let zero : set.bits ≡ 0 = sym is ∙ none in rw zero refl

text_some : (set : Expected) (bits : ℕ) → bits ≡ set.bits → (bits ≡ 0 → ⊥)
    → codes "expected " ++ expected_text set ≡ unexpected_text set
text_some set bits is some = go (set.bits == 0) refl
  where
    go : (b : Bool) → (set.bits == 0) ≡ b
        → codes "expected " ++ expected_text set
        ≡ (if b then codes "not expected here" else codes "expected " ++ expected_text set)
    go true e = absurd (some (is ∙ eqb-true set.bits 0 e))
    go false e = refl

pub returns-in_err-write_str : goal.returns-in_err-write_str
returns-in_err-write_str g c =
    λ plain ok. absurd (err_not_ok c.from_residual.result c.from_residual.ensures.0 ok)

pub returns-then-bits-eq0 : goal.returns-then-bits-eq0
returns-then-bits-eq0 g c = λ plain ok.
    has_written_of_eq g.W.Write.write_str_gives _ _ _ _
    (text_none c.args.expected c.bits.result c.bits.ensures c.if-bits-eq0.true) (c.write_str.ensures.writes plain ok)

pub returns : goal.returns
returns g c = λ plain ok.
    let first = c.in_ok-write_str.ensures.writes plain (refl {a = true}) in
    let second = c.fmt.ensures.writes first.plain ok in
    has_written_of_eq g.W.Write.write_str_gives _ _ _ _
    (text_some c.args.expected c.bits.result c.bits.ensures c.if-bits-eq0.false)
    (has_written_append _ _ _ _ _ _ first second)

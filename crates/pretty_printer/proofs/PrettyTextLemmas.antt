-- The pretty text of a stream.
use Rattle.std.proofs.Common.{◌≡◌, ℕ, Bool, List, subst, sym}
use Rattle.layout.specs.Layout.{IsLayout}
use Rattle.layout.specs.Writing.{ReadsBack}
use Rattle.proc_macro2.specs.Forest.{Forest}
use Rattle.proc_macro2.specs.WellSpaced.{IsWellSpaced}
use Rattle.quoting.specs.Joined.{joined}
use Rattle.pretty_printer.specs.PrettyText.{IsJoinedLayout, IsPrettyText}

pub as_in_its_text : (stream : Forest) (text : List ℕ) (pretty : IsPrettyText stream text) → IsWellSpaced stream
    → joined pretty.wants stream ≡ stream → IsLayout stream text × ReadsBack stream text
as_in_its_text stream text pretty spaced same =
    let both = pretty.unchanged spaced in
    (subst (λ f. IsLayout f text) same both.0, subst (λ f. ReadsBack f text) same both.1)

pub joined_layout : (wants : List Bool) (stream new : Forest) (text : List ℕ) → new ≡ joined wants stream
    → IsLayout new text → ReadsBack new text → IsJoinedLayout stream text
joined_layout wants stream new text is layout back = record {
  wants = wants;
  layout = subst (λ f. IsLayout f text) is layout;
  back = subst (λ f. ReadsBack f text) is back;
}

-- the stream is well spaced exactly if it is when it is joined
pub was_spaced : (wants : List Bool) (stream new : Forest)
    → ((wants : List Bool) (f : Forest) → IsWellSpaced (joined wants f) → IsWellSpaced f)
    → new ≡ joined wants stream → IsWellSpaced new → IsWellSpaced stream
was_spaced wants stream new was is spaced = was wants stream (subst IsWellSpaced is spaced)

pub stays_spaced : (wants : List Bool) (stream new : Forest)
    → ((wants : List Bool) (f : Forest) → IsWellSpaced f → IsWellSpaced (joined wants f))
    → new ≡ joined wants stream → IsWellSpaced stream → IsWellSpaced new
stays_spaced wants stream new stays is spaced = subst IsWellSpaced (sym is) (stays wants stream spaced)

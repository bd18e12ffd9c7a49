-- Where an error is, and its message.
use Rattle.std.specs.Prelude.{ℕ, Bool, ◌==◌, List, [], ◌∷◌, ◌++◌, Option, Some, None, codes, drop, if◌then◌else◌}
use Rattle.std.specs.Option.{option_eq}
use Rattle.std.specs.Ordering.{eq_of_both, on}
use Rattle.declarations.specs.ExpectedText.{expected_text}
use Rattle.declarations.specs.declared.expected.Expected.{Expected}
use Rattle.declarations.specs.declared.fault.Fault.{Fault}
use Rattle.pm_span.specs.Extent.{Extent, extent_eq}
use Rattle.pm_stream.specs.TreeSpan.{extent_of}
use Rattle.pm_stream.specs.declared.stream.TokenTree.{TokenTree}

-- the span of the first tree, or nothing if there are no trees
abbrev pub first_extent : List TokenTree → Option Extent
first_extent [] = None
first_extent (tree ∷ left) = Some (extent_of tree)

-- the span of the tree with this index, or nothing if there are not so many trees
abbrev pub extent_at : List TokenTree → ℕ → Option Extent
extent_at trees at = first_extent (drop at trees)

-- the message of an error at a tree
abbrev pub unexpected_text : Expected → List ℕ
unexpected_text set =
    if set.bits == 0 then codes "not expected here" else codes "expected " ++ expected_text set

-- the message of an error at the end of the trees
abbrev pub early_text : Expected → List ℕ
early_text set =
    if set.bits == 0 then codes "the declaration ends too early"
    else codes "the declaration ends too early, expected " ++ expected_text set

-- the message of an error at a tree with this span, or at the end of the trees
abbrev pub message_at : Option Extent → Expected → List ℕ
message_at None set = early_text set
message_at (Some extent) set = unexpected_text set

-- the message of an error
abbrev pub fault_text : Fault → List ℕ
fault_text fault = message_at fault.span fault.expected

-- whether both errors have the same number of trees before them, and the same span or none. What was expected does not
-- matter
abbrev pub fault_eq : Fault → Fault → Bool
fault_eq = eq_of_both (on (λ fault. fault.at) ◌==◌) (on (λ fault. fault.span) (option_eq extent_eq))

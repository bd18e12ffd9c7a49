-- What a search in reading order finds at one step of a traversal.
use Rattle.std.specs.Prelude.{ℕ, List, Option, None}
use Rattle.proc_macro2.specs.Steps.{Step, Enter, Leave, Token}
use Rattle.proc_macro2.specs.declared.TokenTree.TheVariants.{Group}
use Rattle.quoting.specs.Fault.{tree_fault}
use Rattle.quoting.specs.Given.{interpolation_of}
use Rattle.quoting.specs.Holes.{Named}
use Rattle.quoting.specs.Turns.{named_length}
use Rattle.quoting.specs.declared.errors.QuoteError.{QuoteError}

-- the error of the step's tree
abbrev pub step_fault : Step → Option QuoteError
step_fault (Enter g after) = tree_fault (Group g) after
step_fault (Leave g after) = None
step_fault (Token tree after) = tree_fault tree after

-- the length of the list that is named at the step, if the step comes to the `#` of a list
abbrev pub step_turns : List Named → Step → Option ℕ
step_turns holes (Enter g after) = None
step_turns holes (Leave g after) = None
step_turns holes (Token tree after) = named_length holes (interpolation_of tree after)

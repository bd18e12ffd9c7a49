-- What the arguments of the program say.
use Rattle.std.specs.Prelude.{ℕ, List, [], ◌∷◌, ◌++◌, codes, map, string_bytes, Option, Some, None, if◌then◌else◌}
use Rattle.messages.specs.Words.{is_option, is_same, or_dash}
use Rattle.outline.specs.declared.options.Form.{Form}
use Rattle.outline.specs.declared.options.Form.TheVariants.{Lines, Json, Ctags}
use Rattle.outline.specs.declared.options.Options.{Options}
use Rattle.outline.specs.declared.options.ArgumentKind.{ArgumentKind}
use Rattle.outline.specs.declared.options.ArgumentKind.TheVariants as words

-- ---- one argument

-- the meaning of an argument: one that is no option is a path
abbrev pub word_of : List ℕ → ArgumentKind
word_of word =
    if is_same word (codes "--json") then words.Json
    else (if is_same word (codes "--ctags") then words.Ctags
    else (if is_option word then words.Unknown else words.Path))

-- ---- all arguments

-- what the arguments say: the form in which declarations are listed, and the paths
pub record Wishes : Type 0 where
  pub form : Form
  pub paths : List (List ℕ)

-- what is said before any argument
abbrev pub no_wish : Wishes
no_wish = record { form = Lines; paths = [] }

-- what is said after one more argument with this meaning
abbrev pub with_word : ArgumentKind → List ℕ → Wishes → Wishes
with_word words.Json word w = record { form = Json; paths = w.paths }
with_word words.Ctags word w = record { form = Ctags; paths = w.paths }
with_word words.Unknown word w = w
with_word words.Path word w = record { form = w.form; paths = w.paths ++ (word ∷ []) }

abbrev pub or_input : Wishes → Wishes
or_input w = record { form = w.form; paths = or_dash w.paths }

-- nothing if the argument is unknown, and otherwise what the next arguments say
abbrev pub unless_unknown : ArgumentKind → Option Wishes → Option Wishes
unless_unknown words.Unknown next = None
unless_unknown _ next = next

-- what the arguments say, after those that are already taken into account
abbrev pub asks : Wishes → List (List ℕ) → Option Wishes
asks w [] = Some (or_input w)
asks w (word ∷ more) = unless_unknown (word_of word) (asks (with_word (word_of word) word w) more)

-- ---- the program's options

abbrev pub wishes_of : Options → Wishes
wishes_of options = record { form = options.form; paths = map string_bytes options.paths.items }

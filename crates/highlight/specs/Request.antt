-- What the words of the command line mean.
use Rattle.std.specs.Prelude.{ℕ, List, [], ◌∷◌, Option, Some, None, codes, nat_eq, option_map, if◌then◌else◌}
use lib.Pointwise.{pointwise}
use Rattle.highlight.specs.declared.format.Format.{Format}
use Rattle.highlight.specs.declared.format.Format.TheVariants.{Html, Term}

-- the format of that name, if there is one
abbrev pub format_named : List ℕ → Option Format
format_named word =
    if pointwise nat_eq word (codes "html") then Some Html
    else (if pointwise nat_eq word (codes "term") then Some Term else None)

-- the format, if there is one, with this path
abbrev pub with_path : List ℕ → Option Format → Option (Format × List ℕ)
with_path path format = option_map (λ named. (named, path)) format

-- the format that the first word names, and the path: the second word, or `-` if there is none
abbrev pub request_of : List (List ℕ) → Option (Format × List ℕ)
request_of [] = None
request_of (word ∷ []) = with_path (codes "-") (format_named word)
request_of (word ∷ path ∷ []) = with_path path (format_named word)
request_of (word ∷ path ∷ more ∷ words) = None

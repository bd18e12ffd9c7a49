-- The templates of the code for a struct.
use Rattle.std.specs.Prelude.{ℕ, List, [], ◌∷◌}
use Rattle.proc_macro2.specs.Files.{new_map, next_lo}
use Rattle.proc_macro2.specs.Forest.{Forest}
use Rattle.proc_macro2.specs.Parsing.{ParsesTo}
use Rattle.proc_macro2.specs.declared.TokenTree.{TokenTree}
use Rattle.write_getters.specs.declared.templates.Templates.{Templates}

-- the template is the stream to which the text parses
abbrev pub IsTemplate : List ℕ → Forest → Type 0
IsTemplate text template = ParsesTo (next_lo new_map) text template

-- the template for generic parameters in these brackets, or without generic parameters
abbrev pub template_for : List TokenTree → Templates → Forest
template_for [] templates = templates.plain
template_for (tree ∷ trees) templates = templates.generic

-- The call of `compile_error!` that reports an error.
use Rattle.std.specs.Prelude.{ℕ, List, [], ◌∷◌, Option, Some, None, codes, false}
use Rattle.pm_span.specs.Extent.{Extent, nowhere}
use Rattle.pm_token.specs.Escaped.{string_text}
use Rattle.pm_token.specs.declared.delimiters.Delimiter.TheVariants.{Brace}
use Rattle.pm_token.specs.declared.marks.Spacing.{Spacing}
use Rattle.pm_token.specs.declared.marks.Spacing.TheVariants.{Joint, Alone}
use Rattle.pm_stream.specs.Trees.{forest}
use Rattle.pm_stream.specs.declared.stream.TokenTree.{TokenTree}
use Rattle.pm_stream.specs.declared.stream.TokenTree.TheVariants.{Group, Ident, Punct, Literal}

-- the span at which an error is reported: that of the tree, or the call site if trees are missing
abbrev pub span_or_call_site : Option Extent → Extent
span_or_call_site None = nowhere
span_or_call_site (Some extent) = extent

-- a punctuation mark, such as `:` (58) or `!` (33)
abbrev pub mark : ℕ → Spacing → Extent → TokenTree
mark character spacing span = Punct (record { mark = character; spacing = spacing; span = span })

abbrev pub word : List ℕ → Extent → TokenTree
word text span = Ident (record { name = text; raw = false; span = span })

-- a group in braces that holds these trees
abbrev pub braces : List TokenTree → Extent → TokenTree
braces trees span = Group (record { delimiter = Brace; stream = forest trees; span = span })

-- the trees of `::core::compile_error! { "text" }`, each with this span
abbrev pub compile_error : List ℕ → Extent → List TokenTree
compile_error text span =
    mark 58 Joint span ∷ mark 58 Alone span ∷ word (codes "core") span ∷ mark 58 Joint span ∷ mark 58 Alone span
    ∷ word (codes "compile_error") span ∷ mark 33 Alone span
    ∷ braces (Literal (record { text = string_text text; span = span }) ∷ []) span ∷ []

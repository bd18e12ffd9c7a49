-- The span of a tree.
use Rattle.pm_span.specs.Extent.{Extent}
use Rattle.pm_stream.specs.declared.stream.TokenTree.{TokenTree}
use Rattle.pm_stream.specs.declared.stream.TokenTree.TheVariants.{Group, Ident, Punct, Literal}

-- the span of a tree
abbrev pub extent_of : TokenTree → Extent
extent_of (Group g) = g.span
extent_of (Ident i) = i.span
extent_of (Punct p) = p.span
extent_of (Literal l) = l.span

-- the tree with this span; the trees in a group keep their spans
abbrev pub with_span : TokenTree → Extent → TokenTree
with_span (Group g) span = Group (record g { span = span })
with_span (Ident i) span = Ident (record i { span = span })
with_span (Punct p) span = Punct (record p { span = span })
with_span (Literal l) span = Literal (record l { span = span })

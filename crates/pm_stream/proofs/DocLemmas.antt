-- The tokens of a doc comment.
use Rattle.std.proofs.Common.{◌≡◌, ℕ, ◌≤◌, Bool, true, false, List, [], ◌∷◌, ◌++◌, codes, refl, ap, ◌∙◌, arith}
use Rattle.std.specs.Str.{chars}
use Rattle.std.specs.List.{list_all}
use Rattle.std.proofs.lemmas.Bool.{and_from}
use Rattle.lexical.specs.Class.{is_ident_start, is_ident_continue}
use Rattle.lexical.proofs.ClassLemmas.{ident_start_ascii, ident_continue_ascii}
use Rattle.lexical.specs.Token.{Name, Literal}
use Rattle.pm_token.specs.Built.{IsBuiltToken}
use Rattle.pm_token.specs.Escaped.{string_text}
use Rattle.pm_token.specs.declared.delimiters.Delimiter.TheVariants.{Bracket}
use Rattle.pm_token.proofs.EscapedLemmas as escaped
use Rattle.pm_token.specs.Leaf as leaves
use Rattle.pm_token.specs.Text.{IsText}
use Rattle.pm_token.specs.declared.marks.Spacing.TheVariants.{Alone}
use Rattle.pm_span.specs.Extent.{Extent}
use Rattle.pm_stream.specs.DocGroup.{trees_of}
use Rattle.pm_stream.specs.Events.{Event, hash, bang, equals, doc_group_onto, doc_onto}
use Rattle.pm_stream.specs.Trees.{forest, alone}
use Rattle.pm_stream.specs.declared.stream.Group.{Group as Grouped}
use Rattle.pm_stream.specs.declared.stream.TokenTree.{TokenTree}
use Rattle.pm_stream.specs.declared.stream.TokenTree.TheVariants as trees
use Rattle.pm_stream.specs.declared.stream.TokenTree.TheVariants.{Ident, Punct}
use Rattle.pm_stream.specs.Forest.{Forest, nil, leaf, group, flat_onto, IsBuilt}
use Rattle.pm_stream.proofs.InOrderLemmas.{in_order-alone}

-- `d` begins an identifier
starts_doc : is_ident_start 100 ≡ true
starts_doc = ident_start_ascii 100 (omega arith)

ends_doc : list_all is_ident_continue (codes "oc") ≡ true
ends_doc = and_from _ _ (ident_continue_ascii 111 (omega arith))
    (and_from _ _ (ident_continue_ascii 99 (omega arith)) refl)

pub doc_name_built : IsBuiltToken (Name false (codes "doc"))
doc_name_built = (
  record {
    front = codes "d";
    back = codes "oc";
    whole = refl;
    first = (100, refl, starts_doc);
    second = record { each = ends_doc; stops = refl };
  },
  refl,
  refl,
)

-- the bytes of `doc` are its characters
pub doc_chars : chars (codes "doc") ≡ codes "doc"
unfolding chars
doc_chars = refl

-- ---- the trees of a doc comment

abbrev doc_group : ℕ → ℕ → List ℕ → Forest
doc_group lo hi text =
    group Bracket lo hi (leaf (Name false (codes "doc")) lo hi
    (leaf equals lo hi (leaf (Literal (string_text text)) lo hi nil))) nil

abbrev pub doc_trees : ℕ → ℕ → Bool → List ℕ → Forest
doc_trees lo hi true text = leaf hash lo hi (leaf bang lo hi (doc_group lo hi text))
doc_trees lo hi false text = leaf hash lo hi (doc_group lo hi text)

pub doc_trees-events : (lo hi : ℕ) (inner : Bool) (text : List ℕ) (events : List Event)
    → flat_onto (doc_trees lo hi inner text) events ≡ doc_onto lo hi inner text events
doc_trees-events lo hi true text events = refl
doc_trees-events lo hi false text events = refl

doc_group_built : (lo hi : ℕ) (text : List ℕ) → lo ≤ hi → IsText text → IsBuilt (doc_group lo hi text)
doc_group_built lo hi text within all =
    (within, (doc_name_built, within, (refl, within, (escaped.doc_built text all, within, tt))), tt)

-- the trees of a doc comment are built if its text is a text
pub doc_built : (lo hi : ℕ) (inner : Bool) (text : List ℕ) → lo ≤ hi → IsText text
    → IsBuilt (doc_trees lo hi inner text)
doc_built lo hi true text within all = (refl, within, (refl, within, doc_group_built lo hi text within all))
doc_built lo hi false text within all = (refl, within, doc_group_built lo hi text within all)

-- the events of a doc comment's group that is made of these parts
pub doc_group_events : (text : List ℕ) (doc : leaves.Name) (mark : leaves.Mark) (literal : leaves.Text)
    (items : List TokenTree) (made : Grouped) (span : Extent) (events : List Event)
    → doc ≡ record { name = codes "doc"; raw = false; span = span }
    → mark ≡ record { mark = 61; spacing = Alone; span = span }
    → literal ≡ record { text = string_text text; span = span }
    → items ≡ Ident doc ∷ Punct mark ∷ trees.Literal literal ∷ []
    → made ≡ record { delimiter = Bracket; stream = forest items; span = span }
    → flat_onto (alone (trees.Group made)) events ≡ doc_group_onto span.lo span.hi text events
doc_group_events text doc mark literal items made span events name sign content all is =
    rw (is, all, name, sign, content) refl

-- ---- the trees of a stream

pub trees_of-forest : (ts : List TokenTree) → trees_of (forest ts) ≡ ts
trees_of-forest [] = refl
trees_of-forest (trees.Group g ∷ ts) = ap (λ l. trees.Group g ∷ l) (trees_of-forest ts)
trees_of-forest (Ident i ∷ ts) = ap (λ l. Ident i ∷ l) (trees_of-forest ts)
trees_of-forest (Punct p ∷ ts) =
    ap (λ l. l ++ trees_of (forest ts)) (in_order-alone (Punct p)) ∙ ap (λ l. Punct p ∷ l) (trees_of-forest ts)
trees_of-forest (trees.Literal t ∷ ts) = ap (λ l. trees.Literal t ∷ l) (trees_of-forest ts)

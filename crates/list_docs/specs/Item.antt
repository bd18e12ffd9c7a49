-- The items that doc comments document.
use Rattle.std.specs.Cmp.Lexicographic.{pointwise}
use Rattle.std.specs.Prelude.{ℕ, Bool, false, ◌==◌, ◌||◌, List, [], ◌++◌, codes, nat_eq, if◌then◌else◌}
use Rattle.std.specs.Prelude.{Option, Some, None}
use Rattle.proc_macro2.specs.Leaf.{Name, Text}
use Rattle.proc_macro2.specs.Spelling.{name_text, spelling}
use Rattle.proc_macro2.specs.declared.TokenTree.{TokenTree}
use Rattle.proc_macro2.specs.declared.TokenTree.TheVariants.{Ident, Punct}
use Rattle.list_docs.specs.Doc.{doc_of}
use Rattle.list_docs.specs.declared.item.State as program
use Rattle.list_docs.specs.declared.item.State.TheVariants as variants

-- how much of a documented item has been read: nothing, or a `!`, after which a doc comment is an inner one, or the
-- item's doc comment, or its keyword too
pub data State : Type 0 where
  Nothing : State
  Inner : State
  Documented : State
  Keyword : Name → State

-- the state of the program's value
abbrev pub state_of : program.State → State
state_of variants.Nothing = Nothing
state_of variants.Inner = Inner
state_of variants.Documented = Documented
state_of (variants.Keyword name) = Keyword name.now

-- whether the name is this word
abbrev pub is_word : Name → List ℕ → Bool
is_word name word = pointwise nat_eq (name_text name) word

-- whether the identifier is a keyword that the name of an item follows
abbrev pub is_keyword : Name → Bool
is_keyword name =
    is_word name (codes "enum") || is_word name (codes "fn") || is_word name (codes "mod")
    || is_word name (codes "struct") || is_word name (codes "trait") || is_word name (codes "type")

-- whether the tree is this mark
abbrev pub is_mark : ℕ → TokenTree → Bool
is_mark c (Punct mark) = mark.mark == c
is_mark c _ = false

-- the state after a tree that follows a doc comment: the search for a keyword ends at `:` (58)
abbrev pub after_doc : TokenTree → State
after_doc (Ident name) = if is_keyword name then Keyword name else Documented
after_doc tree = if is_mark 58 tree then Nothing else Documented

-- the state after a tree that has no doc comment and is not `!`
abbrev pub after_state : State → TokenTree → State
after_state Documented tree = after_doc tree
after_state _ tree = Nothing

-- the state after a tree with this literal of a doc comment, or with none, where `!` is 33
abbrev pub after_literal : State → Option Text → TokenTree → State
after_literal Inner (Some literal) tree = Nothing
after_literal _ (Some literal) tree = Documented
after_literal state None tree = if is_mark 33 tree then Inner else after_state state tree

-- the state after the tree is read too
abbrev pub after : State → TokenTree → State
after state tree = after_literal state (doc_of tree) tree

-- the line for an item whose name is the tree, such as `fn add`; none for other trees
abbrev pub line_of_item : State → TokenTree → List ℕ
line_of_item (Keyword keyword) (Ident name) = spelling keyword ++ (codes " " ++ (spelling name ++ codes "\n"))
line_of_item _ _ = []

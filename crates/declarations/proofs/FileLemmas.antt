-- Items one after the other, files, and the errors of files.
use Rattle.std.proofs.Common.{◌≡◌, refl, sym, ◌∙◌, ap, subst, ℕ, ◌+◌, ◌-◌, ◌<◌, ◌≤◌, ◌==◌, false, true, List, []}
use Rattle.std.proofs.Common.{Result, Ok, Err, IfErr, eqb-true, inr}
use Rattle.std.proofs.Common.{◌∷◌, ◌++◌, length, drop, arith, append_assoc}
use Rattle.std.proofs.Math.Seq.{drop-append-add}
use Rattle.std.proofs.lemmas.List.{length-append}
use Rattle.pm_stream.specs.declared.stream.TokenTree.{TokenTree}
use Rattle.declarations.specs.Expected.{Expects}
use Rattle.declarations.specs.Fault.{first_extent, extent_at}
use Rattle.declarations.specs.declared.expected.Expected.{Expected}
use Rattle.declarations.specs.File.{AreItems, AreItemsBefore, FileFaultAt, IsFile, braces, last_braces}
use Rattle.declarations.specs.Forms.{AreInnerAttributes, IsAnyItem}
use Rattle.declarations.specs.Reading.{FaultAt, Reads}
use Rattle.declarations.specs.Whole.{ReadsAll}
use Rattle.declarations.proofs.StartLemmas as begin
use Rattle.declarations.proofs.RuleFormLemmas.{only_reading, rule_fewer}
use Rattle.declarations.specs.rules.Parts.{inner_attributes}
use Rattle.declarations.specs.rules.Items.{any_item}

-- an item has at least one tree
pub item_fewer : (trees part rest : List TokenTree) → Reads IsAnyItem trees part rest → length rest < length trees
item_fewer trees part rest reads = rule_fewer any_item begin.any_item_starts trees part rest refl reads

-- ---- items one after the other

items-snoc : (parts : List (List TokenTree)) (trees left part rest : List TokenTree)
    → AreItemsBefore parts trees left → Reads IsAnyItem left part rest
    → AreItemsBefore (parts ++ part ∷ []) trees rest
items-snoc [] trees left part rest before reads =
    (rest, subst (λ ts. Reads IsAnyItem ts part rest) (sym before) reads, refl)
items-snoc (first ∷ parts) trees left part rest before reads =
    (before.0, before.1, items-snoc parts before.0 left part rest before.2 reads)

no_rest : (part rest : List TokenTree) → [] ≡ part ++ rest → rest ≡ []
no_rest [] rest none = sym none
no_rest (tree ∷ part) rest none = cc

rest_items : (trees part rest : List TokenTree) (parts : List (List TokenTree)) → Reads IsAnyItem trees part rest
    → AreItemsBefore parts trees [] → AreItems rest
rest_items trees part rest [] reads none = ([], no_rest part rest (sym none ∙ reads.whole))
rest_items trees part rest (first ∷ parts) reads before =
    let only = only_reading any_item begin.any_item_starts trees part rest reads first before.0 before.1 in
    (parts, subst (λ ts. AreItemsBefore parts ts []) only.1 before.2)

-- if all trees are items, then so are the trees after the first item
items_after : (trees part rest : List TokenTree) → Reads IsAnyItem trees part rest → AreItems trees → AreItems rest
items_after trees part rest reads all = rest_items trees part rest all.0 reads all.1

-- if all trees are items, then so are the trees after several of them
items_left : (parts : List (List TokenTree)) (trees left : List TokenTree) → AreItemsBefore parts trees left
    → AreItems trees → AreItems left
items_left [] trees left before all = subst AreItems before all
items_left (part ∷ parts) trees left before all =
    items_left parts before.0 left before.2 (items_after trees part before.0 before.1 all)

no_items : (left : List TokenTree) (parts : List (List TokenTree)) (within : ℕ) → (left ≡ [] → ⊥)
    → FaultAt IsAnyItem left within → AreItemsBefore parts left [] → ⊥
no_items left [] within more fault none = more none
no_items left (part ∷ parts) within more fault before = fault.nothing part before.0 before.1

-- trees that are items begin with an item, so they have no error there
item_stands : (left : List TokenTree) (within : ℕ) → (left ≡ [] → ⊥) → FaultAt IsAnyItem left within
    → AreItems left → ⊥
item_stands left within more fault all = no_items left all.0 within more fault all.1

-- ---- a file that is read from its start

-- items are read up to the left trees
pub record ReadUpTo (trees items left : List TokenTree) : Type 0 where
  pub parts : List (List TokenTree)
  pub front : List TokenTree
  pub before : AreItemsBefore parts items left
  pub whole : trees ≡ front ++ left

pub none_read : (trees inner items : List TokenTree) → Reads AreInnerAttributes trees inner items
    → ReadUpTo trees items items
none_read trees inner items reads = record { parts = []; front = inner; before = refl; whole = reads.whole }

pub one_read : (trees items left part rest : List TokenTree) → ReadUpTo trees items left
    → Reads IsAnyItem left part rest → ReadUpTo trees items rest
one_read trees items left part rest up reads = record {
  parts = up.parts ++ part ∷ [];
  front = up.front ++ part;
  before = items-snoc up.parts items left part rest up.before reads;
  whole = up.whole ∙ ap (λ ts. up.front ++ ts) reads.whole ∙ sym (append_assoc up.front part rest);
}

pub some_left : (left : List TokenTree) → 0 < length left → left ≡ [] → ⊥
some_left left more none =
    let count : length left ≡ 0 = ap length none in
    omega arith

pub not_empty : (left : List TokenTree) → false ≡ (length left == 0) → 0 < length left
not_empty [] more = cc
not_empty (tree ∷ left) more = omega arith

pub left_fits : (trees items left : List TokenTree) → ReadUpTo trees items left → length left ≤ length trees
left_fits trees items left up =
    let sum : length trees ≡ length up.front + length left = ap length up.whole ∙ length-append up.front left in
    omega arith

-- the tree of an error is the same, counted from the left trees or from all of them
pub fault_extent : (trees items left : List TokenTree) (within at : ℕ) → ReadUpTo trees items left
    → at + length left ≡ length trees + within → extent_at left within ≡ extent_at trees at
fault_extent trees items left within at up counted =
    let sum : length trees ≡ length up.front + length left = ap length up.whole ∙ length-append up.front left in
    let count : length up.front + within ≡ at = omega arith in
    ap first_extent (sym (drop-append-add up.front left within) ∙ ap (λ n. drop n (up.front ++ left)) count
    ∙ ap (drop at) (sym up.whole))

-- after the last item the trees are items
pub all_read : (trees items left : List TokenTree) → ReadUpTo trees items left → true ≡ (length left == 0)
    → AreItems items
all_read trees items [] up none = (up.parts, up.before)
all_read trees items (tree ∷ left) up none =
    let count = eqb-true (length (tree ∷ left)) 0 (sym none) in absurd (omega (arith, count))

-- the error of the first item that cannot be read
pub item_fault : (trees inner items left : List TokenTree) (within at : ℕ) (set : Expected)
    → Reads AreInnerAttributes trees inner items → ReadUpTo trees items left → 0 < length left
    → FaultAt IsAnyItem left within → Expects IsAnyItem left within set
    → at ≡ length trees - length left + within
    → FileFaultAt trees at set
item_fault trees inner items left within at set reads up more fault expected counted =
    let sum : length trees ≡ length up.front + length left = ap length up.whole ∙ length-append up.front left in
    inr (record {
      inner = inner;
      items = items;
      inner_read = reads;
      parts = up.parts;
      front = up.front;
      left = left;
      before = up.before;
      whole = up.whole;
      more = some_left left more;
      within = within;
      fault = fault;
      expected = expected;
      counted = omega arith;
    })

-- if an item has an error, then the trees are no file
pub not_file : (trees inner items left inner2 items2 : List TokenTree) (within : ℕ)
    → Reads AreInnerAttributes trees inner items → ReadUpTo trees items left → 0 < length left
    → FaultAt IsAnyItem left within → IsFile trees inner2 items2 → ⊥
not_file trees inner items left inner2 items2 within reads up more fault file =
    let only = only_reading inner_attributes begin.inner_attributes_starts trees inner items reads inner2 items2
    file.inner_read in
    item_stands left within (some_left left more) fault
    (items_left up.parts items left up.before (subst AreItems only.1 file.are_items))

-- ---- the braces that an item ends with

pub last_braces-snoc : (front : List TokenTree) (tree : TokenTree) → last_braces (front ++ tree ∷ []) ≡ braces tree
last_braces-snoc [] tree = refl
last_braces-snoc (first ∷ []) tree = refl
last_braces-snoc (first ∷ next ∷ front) tree = last_braces-snoc (next ∷ front) tree

-- ---- an item that is all of the trees

pub alone : (trees : List TokenTree) → ReadsAll IsAnyItem trees → Reads IsAnyItem trees trees []
alone trees all = record {
  piece = all.piece;
  read = all.read;
  taken = all.taken;
  whole = all.whole;
  stands = all.stands.0;
}

-- what holds of every error holds of the error of this result
pub any_err : {A E : Type 0} → (r : Result A E) (Q : Type 0) → Q → IfErr r (λ e. Q)
any_err (Ok a) Q q = tt
any_err (Err e) Q q = q

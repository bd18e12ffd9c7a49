-- Examples of templates, proved by computation.
use Rattle.std.proofs.Common.{◌≡◌, ℕ, ◌+◌, true, false, List, [], ◌∷◌, Ok, Err, codes, refl}
use Rattle.proc_macro2.specs.Extent.{Extent}
use Rattle.proc_macro2.specs.Forest.{Forest, nil, leaf, group}
use Rattle.proc_macro2.specs.Token.{Name, Mark, Literal}
use Rattle.proc_macro2.specs.declared.Delimiter.TheVariants.{Parenthesis, Brace, Bracket}
use Rattle.quoting.specs.Filled.{comes, fill_template, filled_by}
use Rattle.quoting.specs.Holes.{Named}
use Rattle.quoting.specs.Items.{One, Unfit, Each, end, trees, misfit, list, no_name, no_number}
use Rattle.quoting.specs.declared.errors.TemplateError.TheVariants.{NoHole, LoneList, NoList, UnequalLists}
use Rattle.quoting.specs.declared.errors.TemplateError.TheVariants.{NotIdent, NotFinite, TooDeep}

-- the span of the character at the given position
abbrev at : ℕ → Extent
at n = record { lo = n; hi = n + 1 }

-- a mark, or a name, with the span of one character before other trees
abbrev mark : ℕ → ℕ → Forest → Forest
mark c n = leaf (Mark c false) n (n + 1)

abbrev name : List ℕ → ℕ → Forest → Forest
name text n = leaf (Name false text) n (n + 1)

-- the mark `#` before other trees
abbrev hash : ℕ → Forest → Forest
hash = mark 35

-- `+ 7`, `a` and `b`, each with its own span
abbrev sum : Forest
sum = mark 43 90 (leaf (Literal (codes "7")) 91 92 nil)

abbrev a : Forest
a = name (codes "a") 93 nil

abbrev b : Forest
b = name (codes "b") 94 nil

-- `#x` is `+ 7` and `#0` is `a`. `#xs` is a list of `a` and `b`, and `#ys` a list of one value. `#rows` is a list of
-- two lists, `a b` and `a`. `#bad` is not an identifier. `#nan` is a list of not-a-number and `a`
abbrev holes : List Named
holes =
    record { name = codes "x"; filling = One sum }
    ∷ record { name = codes "0"; filling = One a }
    ∷ record { name = codes "xs"; filling = Each (trees a (trees b end)) }
    ∷ record { name = codes "ys"; filling = Each (trees b end) }
    ∷ record { name = codes "none"; filling = Each end }
    ∷ record { name = codes "rows"; filling = Each (list (trees a (trees b end)) (list (trees a end) end)) }
    ∷ record { name = codes "bad"; filling = Unfit no_name }
    ∷ record { name = codes "nan"; filling = Each (misfit no_number (trees a end)) } ∷ []

-- `#x` or another hole
abbrev hole : List ℕ → ℕ → Forest → Forest
hole text n rest = hash n (name text (n + 1) rest)

-- a group in parentheses with a span
abbrev parens : ℕ → ℕ → Forest → Forest → Forest
parens = group Parenthesis

-- a hole before a group and another one inside: `#x ; { #0 }`
hole_example :
    fill_template holes (hole (codes "x") 0
    (mark 59 2 (group Brace 3 9 (hash 4 (leaf (Literal (codes "0")) 5 6 nil)) nil)))
    ≡ Ok (mark 43 90 (leaf (Literal (codes "7")) 91 92 (mark 59 2 (group Brace 3 9 a nil))))
hole_example = refl

-- in `# [a] #! # # #x` only `#x` is replaced
stays_example :
    fill_template holes (hash 0 (group Bracket 1 4 a (hash 5 (mark 33 6 (hash 7 (hash 10 (hole (codes "x") 11 nil)))))))
    ≡ Ok (hash 0 (group Bracket 1 4 a (hash 5 (mark 33 6 (hash 7 (hash 10 sum))))))
stays_example = refl

-- `# 0u8` is not a hole
suffix_example :
    fill_template holes (hash 0 (leaf (Literal (codes "0u8")) 1 4 nil))
    ≡ Ok (hash 0 (leaf (Literal (codes "0u8")) 1 4 nil))
suffix_example = refl

-- `#(x : #xs),* ;`: the separator is Alone and only between turns
separated_turns :
    fill_template holes
    (hash 0 (parens 1 6 (name (codes "x") 2 (mark 58 3 (hole (codes "xs") 4 nil)))
    (leaf (Mark 44 true) 7 8 (mark 42 8 (mark 59 9 nil)))))
    ≡ Ok (name (codes "x") 2 (mark 58 3 (name (codes "a") 93 (mark 44 7
    (name (codes "x") 2 (mark 58 3 (name (codes "b") 94 (mark 59 9 nil))))))))
separated_turns = refl

-- `#( #xs [#0] )*`: no separator, and a hole of one stream in a group
plain_turns :
    fill_template holes
    (hash 0 (parens 1 9 (hole (codes "xs") 2 (group Bracket 4 7 (hash 5 (leaf (Literal (codes "0")) 6 7 nil)) nil))
    (mark 42 10 nil)))
    ≡ Ok (name (codes "a") 93 (group Bracket 4 7 a (name (codes "b") 94 (group Bracket 4 7 a nil))))
plain_turns = refl

-- `#( #none )**` gives no turn and then `*`
no_turn :
    fill_template holes (hash 0 (parens 1 5 (hole (codes "none") 2 nil) (mark 42 6 (mark 42 7 nil))))
    ≡ Ok (mark 42 7 nil)
no_turn = refl

-- `#( #x ),` without `*` is not a repetition but a `#` and a group
no_repetition :
    fill_template holes (hash 0 (parens 1 5 (hole (codes "x") 2 nil) (mark 44 6 nil)))
    ≡ Ok (hash 0 (parens 1 5 sum (mark 44 6 nil)))
no_repetition = refl

-- ---- errors

-- `#x #y #xs`: the first error in reading order
no_hole :
    fill_template holes (hole (codes "x") 0 (hole (codes "y") 2 (hole (codes "xs") 4 nil))) ≡ Err (NoHole (at 3))
no_hole = refl

-- `#r#x`: a raw identifier is another name
raw : fill_template holes (hash 0 (leaf (Name true (codes "x")) 1 4 nil)) ≡ Err (NoHole (record { lo = 1; hi = 4 }))
raw = refl

-- `#( #none #y )*`: a missing hole is an error even without a turn
no_hole_in_no_turn :
    fill_template holes (hash 0 (parens 1 6 (hole (codes "none") 2 (hole (codes "y") 4 nil)) (mark 42 7 nil)))
    ≡ Err (NoHole (at 5))
no_hole_in_no_turn = refl

-- `(#xs)`: a list outside of repetitions
lone_list : fill_template holes (parens 0 4 (hole (codes "xs") 1 nil) nil) ≡ Err (LoneList (at 2))
lone_list = refl

-- `#( #x )*`: a repetition without a list
no_list :
    fill_template holes (hash 0 (parens 1 5 (hole (codes "x") 2 nil) (mark 42 6 nil)))
    ≡ Err (NoList (record { lo = 1; hi = 5 }))
no_list = refl

-- `#( #y )*`: `NoList` comes before the error inside
no_list_before_no_hole :
    fill_template holes (hash 0 (parens 1 5 (hole (codes "y") 2 nil) (mark 42 6 nil)))
    ≡ Err (NoList (record { lo = 1; hi = 5 }))
no_list_before_no_hole = refl

-- `#( #y [#xs] )*`: a list is named later and in a group, so the error is that of `#y`
no_hole_before_a_list :
    fill_template holes
    (hash 0 (parens 1 9 (hole (codes "y") 2 (group Bracket 4 7 (hole (codes "xs") 5 nil) nil)) (mark 42 10 nil)))
    ≡ Err (NoHole (at 3))
no_hole_before_a_list = refl

-- `#( #( #x )* )*`: the error of the outer parentheses comes first
no_list_before_nested :
    fill_template holes
    (hash 0 (parens 1 9 (hash 2 (parens 3 7 (hole (codes "x") 4 nil) (mark 42 8 nil))) (mark 42 10 nil)))
    ≡ Err (NoList (record { lo = 1; hi = 9 }))
no_list_before_nested = refl

-- `#( #xs #ys )*`: lists of different lengths
unequal :
    fill_template holes (hash 0 (parens 1 7 (hole (codes "xs") 2 (hole (codes "ys") 4 nil)) (mark 42 8 nil)))
    ≡ Err (UnequalLists (at 5))
unequal = refl

-- `#( #( #xs )* )*`: the outer repetition uses up the list
used_up :
    fill_template holes
    (hash 0 (parens 1 12 (hash 2 (parens 3 7 (hole (codes "xs") 4 nil) (mark 42 8 nil))) (mark 42 13 nil)))
    ≡ Err (NoList (record { lo = 3; hi = 7 }))
used_up = refl

-- `#( #xs #rows )*`: in a turn `#rows` is a list, which no inner repetition uses up
lone_row :
    fill_template holes (hash 0 (parens 1 7 (hole (codes "xs") 2 (hole (codes "rows") 4 nil)) (mark 42 8 nil)))
    ≡ Err (LoneList (at 5))
lone_row = refl

-- `#( #( #xs )* #y )*`: the errors of names come before those of turns
no_hole_before_turns :
    fill_template holes
    (hash 0 (parens 1 12 (hash 2 (parens 3 7 (hole (codes "xs") 4 nil) (mark 42 8 (hole (codes "y") 9 nil))))
    (mark 42 13 nil)))
    ≡ Err (NoHole (at 10))
no_hole_before_turns = refl

-- `#bad` and `#( #nan )*`: values that are no tokens
no_ident : fill_template holes (hole (codes "bad") 0 nil) ≡ Err (NotIdent (at 1))
no_ident = refl

not_finite :
    fill_template holes (hash 0 (parens 1 5 (hole (codes "nan") 2 nil) (mark 42 6 nil))) ≡ Err (NotFinite (at 3))
not_finite = refl

-- `#( #xs [ #( #rows ),* ] );*`: a repetition inside a repetition, with its own list in each turn
nested_example :
    fill_template holes
    (hash 0 (parens 1 20 (hole (codes "xs") 2 (group Bracket 4 15
    (hash 5 (parens 6 10 (hole (codes "rows") 7 nil) (mark 44 11 (mark 42 12 nil)))) nil))
    (mark 59 20 (mark 42 21 nil))))
    ≡ Ok (name (codes "a") 93 (group Bracket 4 15 (name (codes "a") 93 (mark 44 11 b))
    (mark 59 20 (name (codes "b") 94 (group Bracket 4 15 a nil)))))
nested_example = refl

-- `((x))` is nested too deep if the limit is one group
too_deep : filled_by (comes 1 holes) 1 0 (parens 0 5 (parens 1 4 a nil) nil) ≡ Err (TooDeep (record { lo = 1; hi = 4 }))
too_deep = refl

-- `&#0 &#[a]`: a Joint mark becomes Alone before a hole, and stays Joint before another `#`
marks_apart :
    fill_template holes
    (leaf (Mark 38 true) 0 1 (hole (codes "0") 1 (leaf (Mark 38 true) 3 4 (hash 4 (group Bracket 5 8 a nil)))))
    ≡ Ok (mark 38 0 (name (codes "a") 93 (leaf (Mark 38 true) 3 4 (hash 4 (group Bracket 5 8 a nil)))))
marks_apart = refl

use Rattle.std.proofs.Common.{subst, sym}
use Rattle.std.specs.Prelude.{MatchResult}
use Rattle.declarations.specs.ItemParts.{HasEnd, class_of, end_of}
use Rattle.declarations.specs.Reader.{Finds, Sticks}
use Rattle.declarations.proofs.item.end_of.Goals as goal

pub returns-in-Struct : goal.returns-in-Struct
returns-in-Struct c =
    subst
    (λ d. MatchResult c.struct_end.result
    (λ found. Finds (end_of d) c.args.trees.now found.1.now
    × HasEnd (class_of d) c.args.trees.now found.0.body found.0.where_clause.now found.0.semicolon.now found.1.now)
    (λ left. Sticks (end_of d) c.args.trees.now left.now))
    (sym c.in-Struct.is) c.struct_end.ensures

pub returns-in-Enum : goal.returns-in-Enum
returns-in-Enum c =
    subst
    (λ d. MatchResult c.enum_end.result
    (λ found. Finds (end_of d) c.args.trees.now found.1.now
    × HasEnd (class_of d) c.args.trees.now found.0.body found.0.where_clause.now found.0.semicolon.now found.1.now)
    (λ left. Sticks (end_of d) c.args.trees.now left.now))
    (sym c.in-Enum.is) c.enum_end.ensures

pub returns-in-Union : goal.returns-in-Union
returns-in-Union c =
    subst
    (λ d. MatchResult c.union_end.result
    (λ found. Finds (end_of d) c.args.trees.now found.1.now
    × HasEnd (class_of d) c.args.trees.now found.0.body found.0.where_clause.now found.0.semicolon.now found.1.now)
    (λ left. Sticks (end_of d) c.args.trees.now left.now))
    (sym c.in-Union.is) c.union_end.ensures

use Rattle.std.proofs.Common.{◌≡◌, [], reverse, sym, ap, ◌∙◌, subst, rules}
use Rattle.std.specs.Str.{chars}
use Rattle.lexical.specs.Token.{Name, Mark, Literal}
use Rattle.pm_token.specs.Leaf.{is_joint}
use Rattle.pm_stream.specs.Forest.{IsBuilt}
use Rattle.pm_stream.specs.Trees.{before}
use Rattle.token_buffer.specs.declared.trees.OpenTrees.{OpenTrees}
use Rattle.pm_stream.specs.declared.stream.TokenTree.TheVariants as trees
use Rattle.token_buffer.specs.Made.{first_onto}
use Rattle.token_buffer.specs.Reads.{left, literal_text}
use Rattle.token_buffer.proofs.MadeLemmas.{built_trees, built_here, made_more, made_group, made_all, fewer_leaf}
use Rattle.token_buffer.proofs.MadeLemmas.{fewer_group, reverse_push}
use Rattle.token_buffer.proofs.cursor.Cursor.to_stream.Goals as goal

pub stream-requires : goal.stream-requires
stream-requires c =
    built_trees (reverse c.loop-first.groups.items) c.loop-first.trees.items (left c.loop-first.here) (left c.args.self)
    c.loop-first.invariant c.args.self.built

pub returns-in_default-pop : goal.returns-in_default-pop
returns-in_default-pop c =
    let none : c.loop-first.groups.items ≡ [] = search rules in
    c.in_ok-inside.ensures.ok
    ∙ made_all (reverse c.loop-first.groups.items) c.loop-first.trees.items (left c.loop-first.here)
    (left c.args.self) c.loop-first.invariant c.in_default.ensures (ap reverse none)

pub loop-first-preserved-in_default : goal.loop-first-preserved-in_default
loop-first-preserved-in_default c =
    let outer = c.in-Some-pop.field-0 in
    made_group (reverse c.pop.new.self.items) (reverse c.loop-first.groups.items) outer
    c.loop-first.trees.items c.push.new.self.items (trees.Group c.group.result) (left c.loop-first.here)
    (left c.args.self) c.loop-first.invariant c.in_default.ensures
    (ap reverse c.in-Some-pop.ensures.items ∙ reverse_push c.pop.new.self.items outer)
    (ap trees.Group (c.group.ensures
    ∙ ap (λ s. record { delimiter = outer.delimiter; stream = s; span = outer.span }) c.in_ok-inside.ensures.ok))
    c.in_ok-push.ensures.items

pub loop-first-smaller-in-Group : goal.loop-first-smaller-in-Group
loop-first-smaller-in-Group c =
    let outer : OpenTrees = record {
      before = c.loop-first.trees;
      delimiter = c.in-Group.delimiter;
      span = c.in-Some.first.span;
      after = c.in-Some.first.after;
    } in
    fewer_group (reverse c.loop-first.groups.items) (reverse c.push-in-Group.new.self.items) outer
    c.in-Group.delimiter c.in-Some.first.span.lo c.in-Some.first.span.hi (left c.loop-first.here)
    (left c.in-Group.inside)
    (c.in-Some.ensures ∙ ap (λ t. first_onto t c.in-Some.first.span (left c.in-Some.first.after)) c.in-Group.is)
    (ap reverse c.in_ok-push-in-Group.ensures.items ∙ reverse_push c.loop-first.groups.items outer)

pub ident-requires : goal.ident-requires
ident-requires c =
    (subst IsBuilt (c.in-Some.ensures
    ∙ ap (λ t. first_onto t c.in-Some.first.span (left c.in-Some.first.after)) c.in-Ident.is)
    (built_here (reverse c.loop-first.groups.items) c.loop-first.trees.items (left c.loop-first.here)
    (left c.args.self) c.loop-first.invariant c.args.self.built)).0

pub loop-first-smaller-in-Ident : goal.loop-first-smaller-in-Ident
loop-first-smaller-in-Ident c =
    fewer_leaf (reverse c.loop-first.groups.items) (Name c.in-Ident.name.raw (chars c.in-Ident.name.text.now))
    c.in-Some.first.span.lo c.in-Some.first.span.hi
    (left c.loop-first.here) (left c.in-Some.first.after)
    (c.in-Some.ensures ∙ ap (λ t. first_onto t c.in-Some.first.span (left c.in-Some.first.after)) c.in-Ident.is)

pub loop-first-preserved-in-Ident : goal.loop-first-preserved-in-Ident
loop-first-preserved-in-Ident c =
    made_more (reverse c.loop-first.groups.items) c.loop-first.trees.items _
    (trees.Ident c.in_ok-name-in-Ident.name)
    (left c.loop-first.here) (left c.in-Some.first.after) (left c.args.self) c.loop-first.invariant
    ((c.in-Some.ensures ∙ ap (λ t. first_onto t c.in-Some.first.span (left c.in-Some.first.after)) c.in-Ident.is)
    ∙ sym (ap (λ x. before (trees.Ident x) (left c.in-Some.first.after)) c.in_ok-name-in-Ident.ensures.ok))
    c.in_ok-push-in-Ident.ensures.items

pub punct-requires : goal.punct-requires
punct-requires c =
    (subst IsBuilt (c.in-Some.ensures
    ∙ ap (λ t. first_onto t c.in-Some.first.span (left c.in-Some.first.after)) c.in-Punct.is)
    (built_here (reverse c.loop-first.groups.items) c.loop-first.trees.items (left c.loop-first.here)
    (left c.args.self) c.loop-first.invariant c.args.self.built)).0

pub loop-first-smaller-in-Punct : goal.loop-first-smaller-in-Punct
loop-first-smaller-in-Punct c =
    fewer_leaf (reverse c.loop-first.groups.items) (Mark c.in-Punct.mark (is_joint c.in-Punct.spacing))
    c.in-Some.first.span.lo c.in-Some.first.span.hi
    (left c.loop-first.here) (left c.in-Some.first.after)
    (c.in-Some.ensures ∙ ap (λ t. first_onto t c.in-Some.first.span (left c.in-Some.first.after)) c.in-Punct.is)

pub loop-first-preserved-in-Punct : goal.loop-first-preserved-in-Punct
loop-first-preserved-in-Punct c =
    made_more (reverse c.loop-first.groups.items) c.loop-first.trees.items _
    (trees.Punct c.punct.result)
    (left c.loop-first.here) (left c.in-Some.first.after) (left c.args.self) c.loop-first.invariant
    ((c.in-Some.ensures ∙ ap (λ t. first_onto t c.in-Some.first.span (left c.in-Some.first.after)) c.in-Punct.is)
    ∙ sym (ap (λ x. before (trees.Punct x) (left c.in-Some.first.after)) c.punct.ensures))
    c.in_ok-push-in-Punct.ensures.items

pub literal_at-requires : goal.literal_at-requires
literal_at-requires c =
    (subst IsBuilt (c.in-Some.ensures
    ∙ ap (λ t. first_onto t c.in-Some.first.span (left c.in-Some.first.after)) c.in-Literal.is)
    (built_here (reverse c.loop-first.groups.items) c.loop-first.trees.items (left c.loop-first.here)
    (left c.args.self) c.loop-first.invariant c.args.self.built)).0

pub loop-first-smaller : goal.loop-first-smaller
loop-first-smaller c =
    fewer_leaf (reverse c.loop-first.groups.items) (Literal (literal_text c.in-Literal.text))
    c.in-Some.first.span.lo c.in-Some.first.span.hi
    (left c.loop-first.here) (left c.in-Some.first.after)
    (c.in-Some.ensures ∙ ap (λ t. first_onto t c.in-Some.first.span (left c.in-Some.first.after)) c.in-Literal.is)

pub loop-first-preserved : goal.loop-first-preserved
loop-first-preserved c =
    made_more (reverse c.loop-first.groups.items) c.loop-first.trees.items _
    (trees.Literal c.in_ok-literal-in-Literal.literal)
    (left c.loop-first.here) (left c.in-Some.first.after) (left c.args.self) c.loop-first.invariant
    ((c.in-Some.ensures ∙ ap (λ t. first_onto t c.in-Some.first.span (left c.in-Some.first.after)) c.in-Literal.is)
    ∙ sym (ap (λ x. before (trees.Literal x) (left c.in-Some.first.after)) c.in_ok-literal-in-Literal.ensures.ok))
    c.in_ok-push-in-Literal.ensures.items

use Rattle.std.proofs.Common.{◌∙◌, Some, ap, inl, map, refl, string_bytes, sym}
use Rattle.outline.specs.Options.{asks, wishes_of, with_word, word_of}
use Rattle.outline.proofs.OptionsLemmas.{ends_words, stops_at_word, takes_word}
use Rattle.outline.proofs.options.options_of.Goals as goal

pub loop-word-init : goal.loop-word-init
loop-word-init c = ap (λ w. asks w (map string_bytes c.args.words.now)) c.new-options.ensures

pub loop-word-preserved : goal.loop-word-preserved
loop-word-preserved c =
    let known = c.word_of.result in
    takes_word _ _ c.args.words.now c.loop-word.word-index c.word-item.result known _ c.loop-word-test.true
    c.word-item.is (c.word_of.ensures ∙ ap word_of c.as_str.ensures.value) c.in_default.not-Unknown
    (c.in_ok-take-in_default.ensures
    ∙ ap (λ text. with_word known text (wishes_of c.loop-word.options)) c.as_str-in_default.ensures.value)
    c.loop-word.invariant

pub returns-in-Unknown-clause-err : goal.returns-in-Unknown-clause-err
returns-in-Unknown-clause-err c =
    inl (
      refl,
      stops_at_word (wishes_of c.loop-word.options) c.args.words.now c.loop-word.word-index
          c.word-item.result c.word_of.result _ c.loop-word-test.true c.word-item.is
          (c.word_of.ensures ∙ ap word_of c.as_str.ensures.value) c.in-Unknown.is c.loop-word.invariant,
    )

pub returns-clause-ok : goal.returns-clause-ok
returns-clause-ok c =
    ends_words (wishes_of c.loop-word.options) c.args.words.now c.loop-word.word-index _ c.loop-word-test.false
    c.loop-word.invariant
    ∙ ap (λ paths. Some (record { form = c.loop-word.options.form; paths = paths }))
    (sym c.in_ok-push_input_if_empty.ensures)

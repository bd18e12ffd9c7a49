use Rattle.declarations.proofs.expected_text.+write_more.Given as goal

abbrev pub decreases-write_more : goal.decreases-write_more
decreases-write_more g l = l.count

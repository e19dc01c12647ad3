use Rattle.tta_rtl.proofs.dues.+push_due_words.Given as goal

-- fewer delays are left
abbrev pub decreases-push_due_words : goal.decreases-push_due_words
decreases-push_due_words l = l.count

use Rattle.certificate.proofs.shapes.+after_tree.Given as goal

abbrev pub decreases-after_tree : goal.decreases-after_tree
decreases-after_tree l = l.shape.splits

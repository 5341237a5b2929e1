use Rattle.std.proofs.Common.{length, Err, sym, ap, ◌∙◌}
use Rattle.std.proofs.lemmas.Result.{err_from_is_err_and}
use Rattle.std.proofs.lemmas.Int.{to_z-of_z}
use Rattle.certificate.specs.Tasks.{task_of}
use Rattle.certificate.specs.Verdicts.{before, found_answer, tree_answer}
use Rattle.certificate.proofs.RecordsBounded.{tree_bounded}
use Rattle.certificate.proofs.OneTree.{is_tree, no_tree}
use Rattle.certificate.proofs.proving.judge_tree.Goals as goal

pub returns-then-not-is_one_tree : goal.returns-then-not-is_one_tree
returns-then-not-is_one_tree g c =
    let task = task_of c.args.claim.task.now in
    sym (ap (found_answer (g.T.Tariff.le c.args.tariff.now) (g.T.Tariff.unit c.args.tariff.now) task c.args.claim.sense c.args.claim.price.now c.args.top)
    (no_tree task c.shape-shape.result c.shape-shape.ensures c.args.list.now c.is_one_tree.ensures c.if-not-is_one_tree.true))

pub ask_ranges-requires : goal.ask_ranges-requires
ask_ranges-requires g c =
    let t = is_tree (task_of c.args.claim.task.now) c.shape-shape.result c.shape-shape.ensures c.args.list.now c.is_one_tree.ensures c.if-not-is_one_tree.false in
    (c.shape-shape.ensures.splits, (t.0, t.1))

pub returns-in_err-ask_ranges : goal.returns-in_err-ask_ranges
returns-in_err-ask_ranges g c =
    let le = g.T.Tariff.le c.args.tariff.now in
    let unit = g.T.Tariff.unit c.args.tariff.now in
    let task = task_of c.args.claim.task.now in
    let t = is_tree task c.shape-shape.result c.shape-shape.ensures c.args.list.now c.is_one_tree.ensures c.if-not-is_one_tree.false in
    let u = c.ranges.top in
    let q = err_from_is_err_and c.from_residual.result c.from_residual.ensures.1 in
    q.1 ∙ ap Err q.2
    ∙ sym (ap (found_answer le unit task c.args.claim.sense c.args.claim.price.now c.args.top) t.2
    ∙ sym (ap (λ a. before a (tree_answer le unit task c.args.claim.sense c.args.claim.price.now t.0)) (simp to_z-of_z at (c.in_err-ask_ranges.ensures t.0 t.1))))

pub judge_list-requires : goal.judge_list-requires
judge_list-requires g c =
    let t = is_tree (task_of c.args.claim.task.now) c.shape-shape.result c.shape-shape.ensures c.args.list.now c.is_one_tree.ensures c.if-not-is_one_tree.false in
    let u = c.ranges.top in
    let edges = length c.args.claim.task.now.edges.now in
    (c.shape-shape.ensures.splits, (t.0, t.1, tree_bounded edges c.args.top c.requires t.0 (simp to_z-of_z at (c.in_ok-ask_ranges.ensures t.0 t.1))))

pub returns : goal.returns
returns g c =
    let le = g.T.Tariff.le c.args.tariff.now in
    let unit = g.T.Tariff.unit c.args.tariff.now in
    let task = task_of c.args.claim.task.now in
    let t = is_tree task c.shape-shape.result c.shape-shape.ensures c.args.list.now c.is_one_tree.ensures c.if-not-is_one_tree.false in
    let u = c.ranges.top in
    let near = simp to_z-of_z at (c.in_ok-ask_ranges.ensures t.0 t.1) in
    c.judge_list.ensures t.0 t.1 (tree_bounded (length task.edges) c.args.top c.requires t.0 near)
    ∙ sym (ap (found_answer le unit task c.args.claim.sense c.args.claim.price.now c.args.top) t.2
    ∙ sym (ap (λ a. before a (tree_answer le unit task c.args.claim.sense c.args.claim.price.now t.0)) near))

-- The results of a table's calls, computed: the `unfolding` line names every routine of the definition once, for all tables.
use mathlib.Core.Path.{◌≡◌}
use mathlib.Core.List.{List}
use Rattle.laws.specs.Lists.{range, keep, all, member, repeats, sum, total}
use Rattle.laws.specs.Integers.{lesser, greater, least_from, least}
use Rattle.laws.specs.Run.{at, put, push, pop, position_from}
use Rattle.matching.specs.Graph.{first_of, second_of, weight_of, node_at}
use Rattle.matching.specs.Certificate.{mate_of, dual_of, parent_of, matched, pairs, meets, contains, inside, size, within, slack, group_duals}
use Rattle.matching.specs.Certificate.{full_slack, offset}
use Rattle.matching.specs.Tests.{mate_test, climb_ends, parent_test, dual_test, edge_test, tight_test, free_test, full_test, mates_pass, passes}
use Rattle.matching.specs.Tests.{verdict_of, verdict}
use Rattle.steps.specs.Ends.{endpoint, slack_of, tighter, far_ends_from, far_ends, top_weight}
use Rattle.steps.specs.State.{start}
use Rattle.steps.specs.Leaves.{leaves, leaves_after, leaves_of}
use Rattle.steps.specs.Label.{enqueue, mark, base_mate, label1, label2}
use Rattle.steps.specs.Scan.{walk_goes, over_label2, step_back, meet, pass_on, walk_move, scan}
use Rattle.steps.specs.Add.{trace_goes, traceable, trace_move, trace, fit_children, adopt, ring_up, settle, take_in, insert_link, consider_to}
use Rattle.steps.specs.Add.{consider, consider_at, consider_child, gather, tightest, best_edges, add_group}
use Rattle.steps.specs.Ring.{around, link_end, rotate}
use Rattle.steps.specs.Augment.{climb_goes, climb_move, child_holding, turning_goes, match_end, turn_child, turning_move, reroot, turn_group}
use Rattle.steps.specs.Augment.{augment_group, augment_top, trail_goes, through_label1, through_label2, trail_move, match_trail, augment_matching}
use Rattle.steps.specs.Expand.{bring_top, keep_child, free_group, free_child, relabel_goes, unlabel, relabel_move, relabel_base, onward_goes}
use Rattle.steps.specs.Expand.{first_labelled, relabel_from, relabel_reached, onward_move, relabel_ring, retire, expand_group, expand_top}
use Rattle.steps.specs.Adjust.{least_dual, delta1, offer2, delta2_at, offer3, delta3_at, is_outermost, delta4_at, delta_last, choose_delta}
use Rattle.steps.specs.Adjust.{put_fit_dual, move_node, move_group, move_duals, resume, labelled_end, follow2, follow3, follow, adjust_duals}
use Rattle.steps.specs.Steps.{forget, root_at, open_stage, join, reach, use_edge, keep_best, keep_edge, pass_edge, visit, visit_all, take_node}
use Rattle.steps.specs.Steps.{close_group, close_stage, take_or_adjust, step_at, step}
use Rattle.steps.specs.Refusals.{edge_intake, edges_intake, too_short, intake}
use Rattle.steps.specs.Plan.{run_by, run, cleared, filled, certificate_of, certified, plan_end, plan_fine, plan_after, plan}
use Rattle.steps.specs.Check.{room_of, read_of, check_after, check}
use Rattle.steps.specs.Table.{Result, Row, results, expected, result}

unfoldable pub computed : List Row → List Result
unfolding range keep all member repeats sum total lesser greater least_from least at put push pop position_from first_of second_of weight_of
    node_at mate_of dual_of parent_of matched pairs meets contains inside size within slack group_duals full_slack offset mate_test climb_ends
    parent_test dual_test edge_test tight_test free_test full_test mates_pass passes verdict_of verdict endpoint slack_of tighter far_ends_from
    far_ends top_weight start leaves leaves_after leaves_of enqueue mark base_mate label1 label2 walk_goes over_label2 step_back meet pass_on
    walk_move scan trace_goes traceable trace_move trace fit_children adopt ring_up settle take_in insert_link consider_to consider consider_at
    consider_child gather tightest best_edges add_group around link_end rotate climb_goes climb_move child_holding turning_goes match_end
    turn_child turning_move reroot turn_group augment_group augment_top trail_goes through_label1 through_label2 trail_move match_trail
    augment_matching bring_top keep_child free_group free_child relabel_goes unlabel relabel_move relabel_base onward_goes first_labelled
    relabel_from relabel_reached onward_move relabel_ring retire expand_group expand_top least_dual delta1 offer2 delta2_at offer3 delta3_at
    is_outermost delta4_at delta_last choose_delta put_fit_dual move_node move_group move_duals resume labelled_end follow2 follow3 follow
    adjust_duals forget root_at open_stage join reach use_edge keep_best keep_edge pass_edge visit visit_all take_node close_group close_stage
    take_or_adjust step_at step edge_intake edges_intake too_short intake run_by run cleared filled certificate_of certified plan_end plan_fine
    plan_after plan room_of read_of check_after check result
computed rows = results rows

-- what is computed is what the table's calls give
pub holds : (rows : List Row) → computed rows ≡ expected rows → results rows ≡ expected rows
unfolding computed
holds rows e = e

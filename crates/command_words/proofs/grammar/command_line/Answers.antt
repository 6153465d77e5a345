use Rattle.std.proofs.Common.{rules, ap, ap₂, codes, true, ◌≡◌, ◌∙◌}
use Rattle.std.proofs.lemmas.Result.{IfOk-weaker}
use Rattle.clap.specs.Words.{App, app_of, rule_of, with_rule, with_subcommand}
use Rattle.clap.specs.Simple.{app_of_fields, on_top}
use Rattle.command_words.specs.Grammar.{option_rule, drill_app, bare_line}
use Rattle.command_words.proofs.grammar.command_line.Goals as goal

pub returns : goal.returns
returns c =
    let seed_is : rule_of c.action-seed.result ≡ option_rule (codes "seed") = search rules in
    let size_is : rule_of c.action-size.result ≡ option_rule (codes "size") = search rules in
    let drill_is : app_of c.in_ok-drill.drill ≡ drill_app = c.in_ok-drill.ensures.shape (search rules)
    ∙ ap₂ with_rule (c.in_ok-arg.ensures.shape (search rules) ∙ ap₂ with_rule c.new-3.ensures.app seed_is) size_is in
    let named : app_of c.no_binary_name.result ≡ on_top (λ s. record s { no_binary_name = true }) (app_of c.new-4.result) = ap app_of_fields c.no_binary_name.ensures in
    let flag : app_of c.disable_help_flag.result ≡ on_top (λ s. record s { disable_help_flag = true }) (app_of c.no_binary_name.result) = ap app_of_fields c.disable_help_flag.ensures in
    let help : app_of c.disable_help_subcommand.result ≡ on_top (λ s. record s { disable_help_subcommand = true }) (app_of c.disable_help_flag.result) = ap app_of_fields c.disable_help_subcommand.ensures in
    let needs : app_of c.subcommand_required.result ≡ on_top (λ s. record s { subcommand_required = true }) (app_of c.disable_help_subcommand.result) = ap app_of_fields c.subcommand_required.ensures in
    let bare_is : app_of c.subcommand_required.result ≡ bare_line = needs ∙ ap (on_top (λ s. record s { subcommand_required = true })) (help ∙ ap (on_top (λ s. record s { disable_help_subcommand = true }))
    (flag ∙ ap (on_top (λ s. record s { disable_help_flag = true })) (named ∙ ap (on_top (λ s. record s { no_binary_name = true })) c.new-4.ensures.app))) in
    let with_run = c.in_ok-subcommand.ensures.shape (search rules) ∙ ap₂ with_subcommand bare_is (ap (λ (a : App). a.top) c.new-run.ensures.app) in
    IfOk-weaker c.subcommand-2.result _ _ (λ r h. h.shape (search rules) ∙ ap₂ with_subcommand with_run (ap (λ (a : App). a.top) drill_is)) c.subcommand-2.ensures

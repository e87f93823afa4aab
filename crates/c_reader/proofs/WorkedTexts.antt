-- C texts with annotations, and what their runs print and how they end, or their refusals, by computation.
use Rattle.std.proofs.Common.{◌≡◌, ℕ, pos, negsuc, List, [], ◌∷◌, length, Option, Some, None, Result, Ok, Err, codes, refl}
use Rattle.std.specs.Fmt.{decimal}
use Rattle.grammar.specs.Syntax as grammar
use Rattle.c_syntax.specs.declared.place.Place.{Place}
use Rattle.c_syntax.specs.declared.annotation.Kind.TheVariants as clause
use Rattle.c_syntax.specs.declared.types.How.TheVariants as how
use Rattle.c_syntax.specs.Tokens.{PlainToken, PlainTokens}
use Rattle.c_syntax.specs.Programs.{TranslationUnit, PlainRefusal}
use Rattle.c_model.specs.MonitoredTokens.{marks}
use Rattle.c_model.specs.Literals.{digits_at, suffix_of, body_of, literal_of, escape_at, unit_at, letter_of}
use Rattle.c_model.specs.Directives.{is_file, ends_marker, headers, include_fault, directive_fault}
use Rattle.c_model.specs.Pieces.{outside_in_c, outside_in_annotations, backslash_names, is_outside, word_at, number_at, letter_at, string_at, annotation_marks, c_mark_at, mark_at, comment_at, open_block, open_line, other_at, directive_at, piece_at}
use Rattle.c_model.specs.Pieces.{cut}
use Rattle.c_model.specs.CTokens.{add, build, tokens_of}
use Rattle.c_model.specs.Vocabulary.{word_of}
use Rattle.c_model.specs.Library.{library_constant, is_library_name}
use Rattle.c_model.specs.ExpressionGrammar.{integer_word, integer_words, typedef_name, struct_tag, enum_tag, untagged_base, base, consts, type_words, type_behind, more_consts, star, next_star, star_words, written_length, length_or_none}
use Rattle.c_model.specs.ExpressionGrammar.{bracket, next_bracket, brackets, type_name, closed, indexed, dotted, arrowed, postfix_once, postfixes, postfix_rest, literal, literal_first, cast_rest, sized_type, paren_rest, behind_paren}
use Rattle.c_model.specs.ExpressionGrammar.{prefixed, sized, operand_but_name, operand_of, operand, joined_once, behind_operand, choice_rest, conditional_rest, expression_of, expression, next_argument, arguments, call_rest}
use Rattle.c_model.specs.ExpressionGrammar.{behind_variable, assigned, bumped, behind_unary, behind_form, bump_first, at_level, next_part, with_commas, expression_at, placed_rest, placed_expression, nameless_expression, expression_behind}
use Rattle.c_model.specs.ExpressionGrammar.{full_expression, full_placed_expression, full_nameless_expression, full_expression_behind, full_expression_at}
use Rattle.c_model.specs.DeclarationGrammar.{ended, maybe_comma, next_item, item_once, more_items, listed, lengths, dtor, full_dtor, maybe_name, abstract_dtor, full_abstract_dtor, item_of_list, list_of, list_in, initialiser, initialised}
use Rattle.c_model.specs.DeclarationGrammar.{declared_once, next_declared, more_declared, declared_list, declaration, parameter_rest, void_parameter, parameter_behind, parameter, next_parameter, more_parameters, first_parameter, parameters}
use Rattle.c_model.specs.DeclarationGrammar.{next_member, members_of, behind_tag, behind_word, tagged_type, braced, member, more_members, struct_braces, constant_value, constant, enum_braces, braces_of, braces_in, storage_word}
use Rattle.c_model.specs.DeclarationGrammar.{more_storage, file_spec}
use Rattle.c_model.specs.AnnotationGrammar.{whole, zone, named_form, literal_form, sized_form, null_form, result_form, old_form, labelled_form, told_form, asked_form, next_zone, some_zones, separated_form, atom, worded, indexed as formula_indexed}
use Rattle.c_model.specs.AnnotationGrammar.{dotted as formula_dotted, pointed, postfix_once as formula_postfix_once, postfixes as formula_postfixes, worded_postfix, cast_behind, cast_to_type, cast_to_integer}
use Rattle.c_model.specs.AnnotationGrammar.{closed_postfix, parenthesised, behind_parenthesis, prefixed as formula_prefixed, bare_prefix, prefix_of, prefix, joined_once as formula_joined_once, joined_more, joined}
use Rattle.c_model.specs.AnnotationGrammar.{placed_name, next_name, some_names, binder_type, binders, quantified, added_rest, ranged, behind_first, added_parenthesis, added, sum_once, sum_more, zone_sum, linked, links_of, links}
use Rattle.c_model.specs.AnnotationGrammar.{chain_behind, chain_of, implied}
use Rattle.c_model.specs.AnnotationGrammar.{implication_behind, implication_of, chosen_behind, choice_behind, implication, form_of, forms}
use Rattle.c_model.specs.ClauseGrammar.{form_clause, full_clause, next_clause, more_clauses, asserts, assigns, full_assigns, looped, loop_assigns, loop_clause, full_loop_clause, next_loop_clause, more_loop_clauses, loop_clauses}
use Rattle.c_model.specs.ClauseGrammar.{next_own, more_owns, placed_own, behavior, next_behavior, more_behaviors, behavior_names, cover_clause, full_cover, next_cover}
use Rattle.c_model.specs.ClauseGrammar.{more_covers, behaviors_and_covers, own_first, behavior_first, cover_first, contract, clauses, annotations}
use Rattle.c_model.specs.ProgramGrammar.{texts_of, run_item, behind_annotation, annotated_item, condition, else_branch, else_part, selection, while_loop, do_loop, for_first, maybe_ended, for_behind, for_loop, jump, returned}
use Rattle.c_model.specs.ProgramGrammar.{return_statement, item, items_once, items, block, valued_case, default_case, case_label, case_item, case_items_once, case_items}
use Rattle.c_model.specs.ProgramGrammar.{next_case, cases, switch_statement, empty_statement, effect_statement, effect_behind, labelled_statement, named_statement, statement_of, branch_of, loop_of, unlooped_of, inside_of, too_deep}
use Rattle.c_model.specs.ProgramGrammar.{statement_in, branch_in, behind_in, inside_in}
use Rattle.c_model.specs.ProgramGrammar.{function_rest, function, globals, behind_declarator, declared_at_file}
use Rattle.c_model.specs.ProgramGrammar.{next_typedef, more_typedefs, typedefs, next_stray, strays, declared_external, external, more_external, unit}
use Rattle.c_model.specs.State.{EndOfInput, Final, Exits, Broken, Undefined}
use Rattle.c_model.specs.Meaning.{run}
use Rattle.c_model.specs.Phases.{vocabulary, place_fault}
use Rattle.c_model.specs.TokenWords.{syntax_refusal, refused_at_place}
use Rattle.c_reader.proofs.Texts.{Answer, of_tree}

abbrev place : ℕ → ℕ → ℕ → Place
place line column offset = record { line = line; column = column; offset = offset }

-- the answer to tokens that are read to the end, or not
abbrev read_as : PlainTokens → Result ((TranslationUnit × Option Place) × List PlainToken) grammar.ParseFault → Answer
read_as ts (Ok (x, [])) = elim (place_fault x) [ None ↦ of_tree ts x.0 | Some f ↦ Err (refused_at_place ts f.code f.place) ]
read_as ts (Ok (x, t ∷ rest)) = Err (syntax_refusal ts (grammar.At (length (t ∷ rest))))
read_as ts (Err f) = Err (syntax_refusal ts f)

abbrev answer : List ℕ → Answer
answer text = elim (tokens_of text) [ Err r ↦ Err r | Ok ts ↦ read_as ts ((unit (vocabulary ts) ts.names (texts_of ts.list)).parse ts.list) ]

abbrev Outcome : Type 0
Outcome = Result (Final × List ℕ) PlainRefusal

-- the end and the output of the run without input and with 100 steps
abbrev ran : Answer → Outcome
ran (Ok p) = let r = run p (record { bytes = []; tail = EndOfInput }) 100 in Ok (r.final, r.output)
ran (Err r) = Err r

abbrev outcome : List ℕ → Outcome
outcome text = ran (answer text)

abbrev refusal : ℕ → Place → List ℕ → Outcome
refusal code at word = Err (record { code = code; place = at; construct = word })

-- programs and their runs
programs :
    outcome (codes "int main(void) { unsigned char c = 200; c += 100; putchar(c + 21); return -7 / 2; }") ∷
    outcome (codes "int main(void) { if (-1 < 1u) putchar('n'); else putchar('y'); return sizeof(long) - 9 > 0; }") ∷
    outcome (codes "int main(void) { int x = 1; putchar('B'); return x << 31; }") ∷
    outcome (codes "int main(void) { return 10 - 4 - 3 * 2 % 4 << 1; }") ∷
    outcome (codes "int main(void) { int a = 0; if (1) if (a) a = 1; else a = 2; return a; }") ∷
    outcome (codes "int main(void) { int i = 0; for (i = 1; i < 9; i *= 2) { if (i == 2) continue; putchar('0' + i); } return i; }") ∷
    outcome (codes "int main(void) { long a = 1, b = (short)65537; do { ++a; if (a) break; } while (1); return a == 2 ? b : 0 / 0; }") ∷
    outcome (codes "int main(void) { int x = 0; return x && 1 / x || !x & ~0 ^ 4; }") ∷
    outcome (codes "int main(void) { int x = INT_MAX; /*@ assert x + 1 > x; */ x = x - CHAR_BIT; /*@ assert x == 3; */ return 0; }") ∷
    outcome (codes "int main(void) { int x = 7; /*@ assert 0 <= x < 8 ==> x % 2 == 1; assert !(x / 0 == 1); */ return 0; }") ∷ []
    ≡
    Ok (Exits (negsuc 2), 65 ∷ []) ∷
    Ok (Exits (pos 1), 121 ∷ []) ∷
    Ok (Undefined (place 1 52 51), 66 ∷ []) ∷
    Ok (Exits (pos 8), []) ∷
    Ok (Exits (pos 2), []) ∷
    Ok (Exits (pos 16), 49 ∷ 52 ∷ 56 ∷ []) ∷
    Ok (Exits (pos 1), []) ∷
    Ok (Exits (pos 1), []) ∷
    Ok (Broken 2 1 clause.Assert how.False, []) ∷
    Ok (Broken 2 1 clause.Assert how.Undefined, []) ∷ []
unfolding tokens_of build cut piece_at add marks digits_at suffix_of body_of literal_of escape_at unit_at letter_of is_file ends_marker headers include_fault directive_fault outside_in_c outside_in_annotations backslash_names
    is_outside word_at number_at letter_at string_at annotation_marks c_mark_at mark_at comment_at open_block open_line other_at directive_at integer_word integer_words typedef_name struct_tag enum_tag untagged_base base
    consts type_words type_behind more_consts star next_star star_words written_length length_or_none bracket next_bracket brackets type_name closed indexed dotted arrowed postfix_once postfixes postfix_rest literal
    literal_first cast_rest sized_type paren_rest behind_paren prefixed sized operand_but_name operand_of operand joined_once behind_operand choice_rest conditional_rest expression_of expression_at expression next_argument
    arguments call_rest behind_variable assigned bumped behind_unary behind_form at_level next_part with_commas bump_first full_expression placed_rest placed_expression nameless_expression expression_behind full_placed_expression
    full_nameless_expression full_expression_behind
    full_expression_at ended maybe_comma
    next_item item_once more_items listed lengths dtor full_dtor maybe_name abstract_dtor full_abstract_dtor item_of_list list_of list_in initialiser initialised declared_once next_declared more_declared declared_list
    declaration parameter_rest void_parameter parameter_behind parameter next_parameter more_parameters first_parameter parameters next_member members_of behind_tag behind_word tagged_type braced member more_members
    struct_braces constant_value constant enum_braces braces_of braces_in storage_word more_storage file_spec whole zone named_form literal_form sized_form null_form result_form old_form labelled_form told_form asked_form
    next_zone some_zones separated_form atom
    worded formula_indexed formula_dotted pointed formula_postfix_once formula_postfixes worded_postfix cast_behind cast_to_type cast_to_integer closed_postfix parenthesised behind_parenthesis formula_prefixed bare_prefix
    prefix_of prefix formula_joined_once joined_more joined placed_name next_name some_names binder_type binders quantified added_rest ranged behind_first added_parenthesis added sum_once sum_more zone_sum linked links_of links chain_behind chain_of
    implied implication_behind
    implication_of chosen_behind choice_behind implication form_of forms form_clause full_clause next_clause more_clauses asserts assigns full_assigns looped loop_assigns loop_clause full_loop_clause
    next_loop_clause more_loop_clauses loop_clauses next_own more_owns placed_own behavior next_behavior more_behaviors behavior_names cover_clause
    full_cover next_cover more_covers behaviors_and_covers own_first behavior_first cover_first contract clauses annotations run_item behind_annotation annotated_item
    condition else_branch else_part selection while_loop do_loop for_first maybe_ended for_behind for_loop jump returned return_statement item items_once items block valued_case
    default_case case_label case_item case_items_once case_items next_case cases switch_statement empty_statement effect_statement effect_behind labelled_statement named_statement statement_of branch_of loop_of
    unlooped_of inside_of too_deep statement_in branch_in behind_in inside_in
    function_rest function globals behind_declarator
    declared_at_file next_typedef more_typedefs typedefs next_stray strays declared_external external more_external unit word_of library_constant is_library_name
programs = refl

-- texts that are refused
refusals :
    outcome (codes "") ∷
    outcome (codes "void main(void) { }") ∷
    outcome (codes "int main(void) { return 0; } $") ∷
    outcome (codes "int main(void) { return 0; } /* end") ∷
    outcome (codes "float x;") ∷
    outcome (codes "int main(void) { int x = ; return 0; }") ∷
    outcome (codes "int main(void) { return 0; } }") ∷
    outcome (codes "int main(void) { if (1) else ; }") ∷
    outcome (codes "int main(void) { return y; }") ∷
    outcome (codes "int main(void) { int x = 1, x = 2; }") ∷
    outcome (codes "int main(void) { int x = y + (void)1; }") ∷
    outcome (codes "int main(void) { int x = 1; x = 1 + (void)x; return main; }") ∷
    outcome (codes "int main(void) { 1 = 2; }") ∷
    outcome (codes "int main(void) { return; }") ∷
    outcome (codes "int main(void) { continue; }") ∷
    outcome (codes "int main(void) { return 18446744073709551615; }") ∷
    outcome (codes "int main(void) { //@ assert x == 0;\n }") ∷
    outcome (codes "int main(void) { int x = 1; /*@ assert (x < 1) + 1 == 2; */ return 0; }") ∷
    outcome (codes "int main(void) { int x = 1; /*@ assert 1 << x == 2; */ return 0; }") ∷ []
    ≡
    refusal 13 (place 1 1 0) (codes "main") ∷
    refusal 13 (place 1 6 5) (codes "main") ∷
    refusal 1 (place 1 30 29) (codes "24") ∷
    refusal 2 (place 1 30 29) (codes "comment") ∷
    refusal 3 (place 1 1 0) (codes "float") ∷
    refusal 4 (place 1 26 25) (codes ";") ∷
    refusal 4 (place 1 30 29) (codes "}") ∷
    refusal 4 (place 1 25 24) (codes "else") ∷
    refusal 5 (place 1 25 24) (codes "y") ∷
    refusal 5 (place 1 29 28) (codes "x") ∷
    refusal 5 (place 1 26 25) (codes "y") ∷
    refusal 6 (place 1 35 34) (codes "+") ∷
    refusal 6 (place 1 20 19) (codes "=") ∷
    refusal 6 (place 1 18 17) (codes "return") ∷
    refusal 6 (place 1 18 17) (codes "continue") ∷
    refusal 6 (place 1 25 24) (decimal 18446744073709551615) ∷
    refusal 5 (place 1 29 28) (codes "x") ∷
    refusal 6 (place 1 48 47) (codes "+") ∷
    refusal 10 (place 1 42 41) (codes "<<") ∷ []
unfolding tokens_of build cut piece_at add marks digits_at suffix_of body_of literal_of escape_at unit_at letter_of is_file ends_marker headers include_fault directive_fault outside_in_c outside_in_annotations backslash_names
    is_outside word_at number_at letter_at string_at annotation_marks c_mark_at mark_at comment_at open_block open_line other_at directive_at integer_word integer_words typedef_name struct_tag enum_tag untagged_base base
    consts type_words type_behind more_consts star next_star star_words written_length length_or_none bracket next_bracket brackets type_name closed indexed dotted arrowed postfix_once postfixes postfix_rest literal
    literal_first cast_rest sized_type paren_rest behind_paren prefixed sized operand_but_name operand_of operand joined_once behind_operand choice_rest conditional_rest expression_of expression_at expression next_argument
    arguments call_rest behind_variable assigned bumped behind_unary behind_form at_level next_part with_commas bump_first full_expression placed_rest placed_expression nameless_expression expression_behind full_placed_expression
    full_nameless_expression full_expression_behind
    full_expression_at ended maybe_comma
    next_item item_once more_items listed lengths dtor full_dtor maybe_name abstract_dtor full_abstract_dtor item_of_list list_of list_in initialiser initialised declared_once next_declared more_declared declared_list
    declaration parameter_rest void_parameter parameter_behind parameter next_parameter more_parameters first_parameter parameters next_member members_of behind_tag behind_word tagged_type braced member more_members
    struct_braces constant_value constant enum_braces braces_of braces_in storage_word more_storage file_spec whole zone named_form literal_form sized_form null_form result_form old_form labelled_form told_form asked_form
    next_zone some_zones separated_form atom
    worded formula_indexed formula_dotted pointed formula_postfix_once formula_postfixes worded_postfix cast_behind cast_to_type cast_to_integer closed_postfix parenthesised behind_parenthesis formula_prefixed bare_prefix
    prefix_of prefix formula_joined_once joined_more joined placed_name next_name some_names binder_type binders quantified added_rest ranged behind_first added_parenthesis added sum_once sum_more zone_sum linked links_of links chain_behind chain_of
    implied implication_behind
    implication_of chosen_behind choice_behind implication form_of forms form_clause full_clause next_clause more_clauses asserts assigns full_assigns looped loop_assigns loop_clause full_loop_clause
    next_loop_clause more_loop_clauses loop_clauses next_own more_owns placed_own behavior next_behavior more_behaviors behavior_names cover_clause
    full_cover next_cover more_covers behaviors_and_covers own_first behavior_first cover_first contract clauses annotations run_item behind_annotation annotated_item
    condition else_branch else_part selection while_loop do_loop for_first maybe_ended for_behind for_loop jump returned return_statement item items_once items block valued_case
    default_case case_label case_item case_items_once case_items next_case cases switch_statement empty_statement effect_statement effect_behind labelled_statement named_statement statement_of branch_of loop_of
    unlooped_of inside_of too_deep statement_in branch_in behind_in inside_in
    function_rest function globals behind_declarator
    declared_at_file next_typedef more_typedefs typedefs next_stray strays declared_external external more_external unit word_of library_constant is_library_name
refusals = refl

-- assignments, increments, calls and commas in expressions, and `switch`
effects :
    outcome (codes "int f(int n) { return n < 2 ? n : f(n - 1) + f(n - 2); } int main(void) { return f(6); }") ∷
    outcome (codes "int main(void) { int i = 0, n = 0; while (i++ < 3 && ++n) ; return 10 * i + n; }") ∷
    outcome (codes "int main(void) { int x, y; x = y = 3; return (x += y, x) + (x = 1) + x; }") ∷
    outcome (codes "int main(void) { int i = 5; switch (i--) { case 4: return 1; case 5: i *= 2; default: i += 1; case 7: break; } return i; }") ∷
    outcome (codes "int main(void) { for (int i = 0; ; i++) switch (i) { case 0: case 1: continue; default: return i; } }") ∷
    outcome (codes "int x; int main(void) { (int)x = 1; }") ∷
    outcome (codes "int main(void) { switch (1) { int x; } }") ∷
    outcome (codes "int main(void) { switch (1) { case 1: case 2: case 1: ; } }") ∷
    outcome (codes "int main(void) { switch (1) { default: ; default: ; } }") ∷
    outcome (codes "int f(void) { return 1; } int x = 1 + f();") ∷ []
    ≡
    Ok (Exits (pos 8), []) ∷
    Ok (Exits (pos 43), []) ∷
    Ok (Exits (pos 8), []) ∷
    Ok (Exits (pos 9), []) ∷
    Ok (Exits (pos 2), []) ∷
    refusal 4 (place 1 32 31) (codes "=") ∷
    refusal 4 (place 1 31 30) (codes "int") ∷
    refusal 6 (place 1 52 51) (decimal 1) ∷
    refusal 6 (place 1 42 41) (codes "default") ∷
    refusal 6 (place 1 33 32) (codes "=") ∷ []
unfolding tokens_of build cut piece_at add marks digits_at suffix_of body_of literal_of escape_at unit_at letter_of is_file ends_marker headers include_fault directive_fault outside_in_c outside_in_annotations backslash_names
    is_outside word_at number_at letter_at string_at annotation_marks c_mark_at mark_at comment_at open_block open_line other_at directive_at integer_word integer_words typedef_name struct_tag enum_tag untagged_base base
    consts type_words type_behind more_consts star next_star star_words written_length length_or_none bracket next_bracket brackets type_name closed indexed dotted arrowed postfix_once postfixes postfix_rest literal
    literal_first cast_rest sized_type paren_rest behind_paren prefixed sized operand_but_name operand_of operand joined_once behind_operand choice_rest conditional_rest expression_of expression_at expression next_argument
    arguments call_rest behind_variable assigned bumped behind_unary behind_form at_level next_part with_commas bump_first full_expression placed_rest placed_expression nameless_expression expression_behind full_placed_expression
    full_nameless_expression full_expression_behind
    full_expression_at ended maybe_comma
    next_item item_once more_items listed lengths dtor full_dtor maybe_name abstract_dtor full_abstract_dtor item_of_list list_of list_in initialiser initialised declared_once next_declared more_declared declared_list
    declaration parameter_rest void_parameter parameter_behind parameter next_parameter more_parameters first_parameter parameters next_member members_of behind_tag behind_word tagged_type braced member more_members
    struct_braces constant_value constant enum_braces braces_of braces_in storage_word more_storage file_spec whole zone named_form literal_form sized_form null_form result_form old_form labelled_form told_form asked_form
    next_zone some_zones separated_form atom
    worded formula_indexed formula_dotted pointed formula_postfix_once formula_postfixes worded_postfix cast_behind cast_to_type cast_to_integer closed_postfix parenthesised behind_parenthesis formula_prefixed bare_prefix
    prefix_of prefix formula_joined_once joined_more joined placed_name next_name some_names binder_type binders quantified added_rest ranged behind_first added_parenthesis added sum_once sum_more zone_sum linked links_of links chain_behind chain_of
    implied implication_behind
    implication_of chosen_behind choice_behind implication form_of forms form_clause full_clause next_clause more_clauses asserts assigns full_assigns looped loop_assigns loop_clause full_loop_clause
    next_loop_clause more_loop_clauses loop_clauses next_own more_owns placed_own behavior next_behavior more_behaviors behavior_names cover_clause
    full_cover next_cover more_covers behaviors_and_covers own_first behavior_first cover_first contract clauses annotations run_item behind_annotation annotated_item
    condition else_branch else_part selection while_loop do_loop for_first maybe_ended for_behind for_loop jump returned return_statement item items_once items block valued_case
    default_case case_label case_item case_items_once case_items next_case cases switch_statement empty_statement effect_statement effect_behind labelled_statement named_statement statement_of branch_of loop_of
    unlooped_of inside_of too_deep statement_in branch_in behind_in inside_in
    function_rest function globals behind_declarator
    declared_at_file next_typedef more_typedefs typedefs next_stray strays declared_external external more_external unit word_of library_constant is_library_name
effects = refl

-- functions, their prototypes and calls, and declarations in blocks
calls :
    outcome (codes "int gcd(int a, int b) { if (b == 0) return a; return gcd(b, a % b); } int main(void) { return gcd(12, 18); }") ∷
    outcome (codes "int odd(int); int even(int n) { if (!n) return 1; return odd(n - 1); } int odd(int n) { if (!n) return 0; return even(n - 1); } int main() { return even(6); }") ∷
    outcome (codes "void put(unsigned char, int times); static void put(unsigned char c, int times) { while (times > 0) { putchar(c); times--; } } int main(void) { put(321, 3); return 0; }") ∷
    outcome (codes "unsigned char low(int x) { return x; } int main(void) { int y = 1; y = low(515); return y; }") ∷
    outcome (codes "int main(void) { int x = 1; { long x = 40; x = x + 1; putchar(x); } for (int i = 0, j = 3; i < j; ++i) { char c = 'a' + i; putchar(c); } return x; }") ∷
    outcome (codes "int main(void) { int c = getchar(); if (c == -1) exit(7); return 0; }") ∷
    outcome (codes "int half(int n) { //@ assert n + 1 > 2;\n return n / 2; } int main(void) { putchar('h'); return half(1); }") ∷ []
    ≡
    Ok (Exits (pos 6), []) ∷
    Ok (Exits (pos 1), []) ∷
    Ok (Exits (pos 0), 65 ∷ 65 ∷ 65 ∷ []) ∷
    Ok (Exits (pos 3), []) ∷
    Ok (Exits (pos 1), 41 ∷ 97 ∷ 98 ∷ 99 ∷ []) ∷
    Ok (Exits (pos 7), []) ∷
    Ok (Broken 1 1 clause.Assert how.False, 104 ∷ []) ∷ []
unfolding tokens_of build cut piece_at add marks digits_at suffix_of body_of literal_of escape_at unit_at letter_of is_file ends_marker headers include_fault directive_fault outside_in_c outside_in_annotations backslash_names
    is_outside word_at number_at letter_at string_at annotation_marks c_mark_at mark_at comment_at open_block open_line other_at directive_at integer_word integer_words typedef_name struct_tag enum_tag untagged_base base
    consts type_words type_behind more_consts star next_star star_words written_length length_or_none bracket next_bracket brackets type_name closed indexed dotted arrowed postfix_once postfixes postfix_rest literal
    literal_first cast_rest sized_type paren_rest behind_paren prefixed sized operand_but_name operand_of operand joined_once behind_operand choice_rest conditional_rest expression_of expression_at expression next_argument
    arguments call_rest behind_variable assigned bumped behind_unary behind_form at_level next_part with_commas bump_first full_expression placed_rest placed_expression nameless_expression expression_behind full_placed_expression
    full_nameless_expression full_expression_behind
    full_expression_at ended maybe_comma
    next_item item_once more_items listed lengths dtor full_dtor maybe_name abstract_dtor full_abstract_dtor item_of_list list_of list_in initialiser initialised declared_once next_declared more_declared declared_list
    declaration parameter_rest void_parameter parameter_behind parameter next_parameter more_parameters first_parameter parameters next_member members_of behind_tag behind_word tagged_type braced member more_members
    struct_braces constant_value constant enum_braces braces_of braces_in storage_word more_storage file_spec whole zone named_form literal_form sized_form null_form result_form old_form labelled_form told_form asked_form
    next_zone some_zones separated_form atom
    worded formula_indexed formula_dotted pointed formula_postfix_once formula_postfixes worded_postfix cast_behind cast_to_type cast_to_integer closed_postfix parenthesised behind_parenthesis formula_prefixed bare_prefix
    prefix_of prefix formula_joined_once joined_more joined placed_name next_name some_names binder_type binders quantified added_rest ranged behind_first added_parenthesis added sum_once sum_more zone_sum linked links_of links chain_behind chain_of
    implied implication_behind
    implication_of chosen_behind choice_behind implication form_of forms form_clause full_clause next_clause more_clauses asserts assigns full_assigns looped loop_assigns loop_clause full_loop_clause
    next_loop_clause more_loop_clauses loop_clauses next_own more_owns placed_own behavior next_behavior more_behaviors behavior_names cover_clause
    full_cover next_cover more_covers behaviors_and_covers own_first behavior_first cover_first contract clauses annotations run_item behind_annotation annotated_item
    condition else_branch else_part selection while_loop do_loop for_first maybe_ended for_behind for_loop jump returned return_statement item items_once items block valued_case
    default_case case_label case_item case_items_once case_items next_case cases switch_statement empty_statement effect_statement effect_behind labelled_statement named_statement statement_of branch_of loop_of
    unlooped_of inside_of too_deep statement_in branch_in behind_in inside_in
    function_rest function globals behind_declarator
    declared_at_file next_typedef more_typedefs typedefs next_stray strays declared_external external more_external unit word_of library_constant is_library_name
calls = refl

-- texts that are refused for their functions, calls and declarations
refused_calls :
    outcome (codes "int f(int a, int a) { return a; } int main(void) { return 0; }") ∷
    outcome (codes "int f(int a) { int a = 1; return a; } int main(void) { return 0; }") ∷
    outcome (codes "int f(int a); int main(void) { return f(1); }") ∷
    outcome (codes "int f(int a) { return a; } int main(void) { return f(1, 2); }") ∷
    outcome (codes "int f(void) { return 0; } int f() { return 1; } int main(void) { return 0; }") ∷
    outcome (codes "int f(int); long f(int x) { return x; } int main(void) { return 0; }") ∷
    outcome (codes "int f(void) { return 1; } int main(void) { return (f)(); }") ∷
    outcome (codes "int main(void) { int x = main(); return x; }") ∷
    outcome (codes "int putchar(int c) { return c; } int main(void) { return 0; }") ∷
    outcome (codes "int f(void x) { return 0; } int main(void) { return 0; }") ∷
    outcome (codes "int main(void) { if (1) int x = 1; return 0; }") ∷
    outcome (codes "int main(void) { for (int i = 0; i < 1; ++i) ; return i; }") ∷
    outcome (codes "int main(void);") ∷
    outcome (codes "int main(int c) { return c; }") ∷ []
    ≡
    refusal 5 (place 1 18 17) (codes "a") ∷
    refusal 5 (place 1 20 19) (codes "a") ∷
    refusal 5 (place 1 40 39) (codes "(") ∷
    refusal 6 (place 1 53 52) (codes "(") ∷
    refusal 5 (place 1 31 30) (codes "f") ∷
    refusal 5 (place 1 18 17) (codes "f") ∷
    refusal 4 (place 1 54 53) (codes "(") ∷
    refusal 6 (place 1 30 29) (codes "(") ∷
    refusal 5 (place 1 5 4) (codes "putchar") ∷
    refusal 6 (place 1 12 11) (codes "x") ∷
    refusal 4 (place 1 25 24) (codes "int") ∷
    refusal 5 (place 1 55 54) (codes "i") ∷
    refusal 13 (place 1 1 0) (codes "main") ∷
    refusal 13 (place 1 5 4) (codes "main") ∷ []
unfolding tokens_of build cut piece_at add marks digits_at suffix_of body_of literal_of escape_at unit_at letter_of is_file ends_marker headers include_fault directive_fault outside_in_c outside_in_annotations backslash_names
    is_outside word_at number_at letter_at string_at annotation_marks c_mark_at mark_at comment_at open_block open_line other_at directive_at integer_word integer_words typedef_name struct_tag enum_tag untagged_base base
    consts type_words type_behind more_consts star next_star star_words written_length length_or_none bracket next_bracket brackets type_name closed indexed dotted arrowed postfix_once postfixes postfix_rest literal
    literal_first cast_rest sized_type paren_rest behind_paren prefixed sized operand_but_name operand_of operand joined_once behind_operand choice_rest conditional_rest expression_of expression_at expression next_argument
    arguments call_rest behind_variable assigned bumped behind_unary behind_form at_level next_part with_commas bump_first full_expression placed_rest placed_expression nameless_expression expression_behind full_placed_expression
    full_nameless_expression full_expression_behind
    full_expression_at ended maybe_comma
    next_item item_once more_items listed lengths dtor full_dtor maybe_name abstract_dtor full_abstract_dtor item_of_list list_of list_in initialiser initialised declared_once next_declared more_declared declared_list
    declaration parameter_rest void_parameter parameter_behind parameter next_parameter more_parameters first_parameter parameters next_member members_of behind_tag behind_word tagged_type braced member more_members
    struct_braces constant_value constant enum_braces braces_of braces_in storage_word more_storage file_spec whole zone named_form literal_form sized_form null_form result_form old_form labelled_form told_form asked_form
    next_zone some_zones separated_form atom
    worded formula_indexed formula_dotted pointed formula_postfix_once formula_postfixes worded_postfix cast_behind cast_to_type cast_to_integer closed_postfix parenthesised behind_parenthesis formula_prefixed bare_prefix
    prefix_of prefix formula_joined_once joined_more joined placed_name next_name some_names binder_type binders quantified added_rest ranged behind_first added_parenthesis added sum_once sum_more zone_sum linked links_of links chain_behind chain_of
    implied implication_behind
    implication_of chosen_behind choice_behind implication form_of forms form_clause full_clause next_clause more_clauses asserts assigns full_assigns looped loop_assigns loop_clause full_loop_clause
    next_loop_clause more_loop_clauses loop_clauses next_own more_owns placed_own behavior next_behavior more_behaviors behavior_names cover_clause
    full_cover next_cover more_covers behaviors_and_covers own_first behavior_first cover_first contract clauses annotations run_item behind_annotation annotated_item
    condition else_branch else_part selection while_loop do_loop for_first maybe_ended for_behind for_loop jump returned return_statement item items_once items block valued_case
    default_case case_label case_item case_items_once case_items next_case cases switch_statement empty_statement effect_statement effect_behind labelled_statement named_statement statement_of branch_of loop_of
    unlooped_of inside_of too_deep statement_in branch_in behind_in inside_in
    function_rest function globals behind_declarator
    declared_at_file next_typedef more_typedefs typedefs next_stray strays declared_external external more_external unit word_of library_constant is_library_name
refused_calls = refl

-- texts with declarations of all forms
declarations :
    outcome (codes "int *p;") ∷
    outcome (codes "int a[4];") ∷
    outcome (codes "struct s { int n; };") ∷
    outcome (codes "struct { int n; } x;") ∷
    outcome (codes "enum e { A, B = 2, };") ∷
    outcome (codes "typedef int T; T f(void);") ∷
    outcome (codes "char *s = \"a\";") ∷
    outcome (codes "int *f(void);") ∷
    outcome (codes "int f(int *p);") ∷
    outcome (codes "int main(void) { int *x; return 0; }") ∷
    outcome (codes "typedef int;") ∷
    outcome (codes "int *const f(void);") ∷
    outcome (codes "struct s { };") ∷
    outcome (codes "int a[] [") ∷
    outcome (codes "typedef int T, *P, a[sizeof(T)]; T T;") ∷
    outcome (codes "int f(int, void);") ∷
    outcome (codes "enum e { A, B }; enum e { };") ∷
    outcome (codes "struct T { struct T *T; } T; int main(void) { typedef int x; }") ∷ []
    ≡
    refusal 13 (place 1 1 0) (codes "main") ∷
    refusal 13 (place 1 1 0) (codes "main") ∷
    refusal 13 (place 1 1 0) (codes "main") ∷
    refusal 13 (place 1 1 0) (codes "main") ∷
    refusal 13 (place 1 1 0) (codes "main") ∷
    refusal 13 (place 1 1 0) (codes "main") ∷
    refusal 13 (place 1 1 0) (codes "main") ∷
    refusal 13 (place 1 1 0) (codes "main") ∷
    refusal 13 (place 1 1 0) (codes "main") ∷
    Ok (Exits (pos 0), []) ∷
    refusal 4 (place 1 12 11) (codes ";") ∷
    refusal 4 (place 1 13 12) (codes "(") ∷
    refusal 4 (place 1 12 11) (codes "}") ∷
    refusal 4 (place 1 10 9) (codes "end of file") ∷
    refusal 4 (place 1 36 35) (codes "T") ∷
    refusal 4 (place 1 16 15) (codes ")") ∷
    refusal 4 (place 1 27 26) (codes "}") ∷
    refusal 4 (place 1 47 46) (codes "typedef") ∷ []
unfolding tokens_of build cut piece_at add marks digits_at suffix_of body_of literal_of escape_at unit_at letter_of is_file ends_marker headers include_fault directive_fault outside_in_c outside_in_annotations backslash_names
    is_outside word_at number_at letter_at string_at annotation_marks c_mark_at mark_at comment_at open_block open_line other_at directive_at integer_word integer_words typedef_name struct_tag enum_tag untagged_base base
    consts type_words type_behind more_consts star next_star star_words written_length length_or_none bracket next_bracket brackets type_name closed indexed dotted arrowed postfix_once postfixes postfix_rest literal
    literal_first cast_rest sized_type paren_rest behind_paren prefixed sized operand_but_name operand_of operand joined_once behind_operand choice_rest conditional_rest expression_of expression_at expression next_argument
    arguments call_rest behind_variable assigned bumped behind_unary behind_form at_level next_part with_commas bump_first full_expression placed_rest placed_expression nameless_expression expression_behind full_placed_expression
    full_nameless_expression full_expression_behind
    full_expression_at ended maybe_comma
    next_item item_once more_items listed lengths dtor full_dtor maybe_name abstract_dtor full_abstract_dtor item_of_list list_of list_in initialiser initialised declared_once next_declared more_declared declared_list
    declaration parameter_rest void_parameter parameter_behind parameter next_parameter more_parameters first_parameter parameters next_member members_of behind_tag behind_word tagged_type braced member more_members
    struct_braces constant_value constant enum_braces braces_of braces_in storage_word more_storage file_spec whole zone named_form literal_form sized_form null_form result_form old_form labelled_form told_form asked_form
    next_zone some_zones separated_form atom
    worded formula_indexed formula_dotted pointed formula_postfix_once formula_postfixes worded_postfix cast_behind cast_to_type cast_to_integer closed_postfix parenthesised behind_parenthesis formula_prefixed bare_prefix
    prefix_of prefix formula_joined_once joined_more joined placed_name next_name some_names binder_type binders quantified added_rest ranged behind_first added_parenthesis added sum_once sum_more zone_sum linked links_of links chain_behind chain_of
    implied implication_behind
    implication_of chosen_behind choice_behind implication form_of forms form_clause full_clause next_clause more_clauses asserts assigns full_assigns looped loop_assigns loop_clause full_loop_clause
    next_loop_clause more_loop_clauses loop_clauses next_own more_owns placed_own behavior next_behavior more_behaviors behavior_names cover_clause
    full_cover next_cover more_covers behaviors_and_covers own_first behavior_first cover_first contract clauses annotations run_item behind_annotation annotated_item
    condition else_branch else_part selection while_loop do_loop for_first maybe_ended for_behind for_loop jump returned return_statement item items_once items block valued_case
    default_case case_label case_item case_items_once case_items next_case cases switch_statement empty_statement effect_statement effect_behind labelled_statement named_statement statement_of branch_of loop_of
    unlooped_of inside_of too_deep statement_in branch_in behind_in inside_in
    function_rest function globals behind_declarator
    declared_at_file next_typedef more_typedefs typedefs next_stray strays declared_external external more_external unit word_of library_constant is_library_name
declarations = refl

-- an assert that is no item of a block stands where none may (E7), where what follows it makes a text
misplaced_asserts :
    outcome (codes "/*@ assert 0 == 0; */ int x;") ∷
    outcome (codes "int main(void) { if (1) /*@ assert 0 == 0; */ ; }") ∷
    outcome (codes "int main(void) { int x = 0; if (1) /*@ assert 1 == 1; */ x = 1; return x; }") ∷
    outcome (codes "/*@ assert 0 == 0; */") ∷
    outcome (codes "int main(void) { return 0; } //@ assert 1 == 1;\n //@ assert 2 == 2;\n") ∷
    outcome (codes "int main(void) { while (0) /*@ assert 0 == 0; */ /*@ assert x; */ ; }") ∷
    outcome (codes "int main(void) { if (1) /*@ assert 0 == 0; */ }") ∷
    outcome (codes "/*@ assert 0 == 0; */ }") ∷
    outcome (codes "int main(void) { { /*@ assert 0 == 0; */ } }") ∷ []
    ≡
    refusal 7 (place 1 5 4) (codes "assert") ∷
    refusal 7 (place 1 29 28) (codes "assert") ∷
    refusal 7 (place 1 40 39) (codes "assert") ∷
    refusal 4 (place 1 22 21) (codes "end of file") ∷
    refusal 4 (place 3 1 68) (codes "end of file") ∷
    refusal 7 (place 1 32 31) (codes "assert") ∷
    refusal 4 (place 1 47 46) (codes "}") ∷
    refusal 4 (place 1 23 22) (codes "}") ∷
    Ok (Exits (pos 0), []) ∷ []
unfolding tokens_of build cut piece_at add marks digits_at suffix_of body_of literal_of escape_at unit_at letter_of is_file ends_marker headers include_fault directive_fault outside_in_c outside_in_annotations backslash_names
    is_outside word_at number_at letter_at string_at annotation_marks c_mark_at mark_at comment_at open_block open_line other_at directive_at integer_word integer_words typedef_name struct_tag enum_tag untagged_base base
    consts type_words type_behind more_consts star next_star star_words written_length length_or_none bracket next_bracket brackets type_name closed indexed dotted arrowed postfix_once postfixes postfix_rest literal
    literal_first cast_rest sized_type paren_rest behind_paren prefixed sized operand_but_name operand_of operand joined_once behind_operand choice_rest conditional_rest expression_of expression_at expression next_argument
    arguments call_rest behind_variable assigned bumped behind_unary behind_form at_level next_part with_commas bump_first full_expression placed_rest placed_expression nameless_expression expression_behind full_placed_expression
    full_nameless_expression full_expression_behind
    full_expression_at ended maybe_comma
    next_item item_once more_items listed lengths dtor full_dtor maybe_name abstract_dtor full_abstract_dtor item_of_list list_of list_in initialiser initialised declared_once next_declared more_declared declared_list
    declaration parameter_rest void_parameter parameter_behind parameter next_parameter more_parameters first_parameter parameters next_member members_of behind_tag behind_word tagged_type braced member more_members
    struct_braces constant_value constant enum_braces braces_of braces_in storage_word more_storage file_spec whole zone named_form literal_form sized_form null_form result_form old_form labelled_form told_form asked_form
    next_zone some_zones separated_form atom
    worded formula_indexed formula_dotted pointed formula_postfix_once formula_postfixes worded_postfix cast_behind cast_to_type cast_to_integer closed_postfix parenthesised behind_parenthesis formula_prefixed bare_prefix
    prefix_of prefix formula_joined_once joined_more joined placed_name next_name some_names binder_type binders quantified added_rest ranged behind_first added_parenthesis added sum_once sum_more zone_sum linked links_of links chain_behind chain_of
    implied implication_behind
    implication_of chosen_behind choice_behind implication form_of forms form_clause full_clause next_clause more_clauses asserts assigns full_assigns looped loop_assigns loop_clause full_loop_clause
    next_loop_clause more_loop_clauses loop_clauses next_own more_owns placed_own behavior next_behavior more_behaviors behavior_names cover_clause
    full_cover next_cover more_covers behaviors_and_covers own_first behavior_first cover_first contract clauses annotations run_item behind_annotation annotated_item
    condition else_branch else_part selection while_loop do_loop for_first maybe_ended for_behind for_loop jump returned return_statement item items_once items block valued_case
    default_case case_label case_item case_items_once case_items next_case cases switch_statement empty_statement effect_statement effect_behind labelled_statement named_statement statement_of branch_of loop_of
    unlooped_of inside_of too_deep statement_in branch_in behind_in inside_in
    function_rest function globals behind_declarator
    declared_at_file next_typedef more_typedefs typedefs next_stray strays declared_external external more_external unit word_of library_constant is_library_name
misplaced_asserts = refl

-- annotations of loops stand before loops, with one variant at most, and quantifiers have guards (E7, E8); the first fault in the text refuses
loops_and_quantifiers :
    outcome (codes "int main(void) { /*@ loop invariant 0 == 0; */ ; }") ∷
    outcome (codes "int main(void) { /*@ loop variant 1; loop variant 2; */ while (0) ; }") ∷
    outcome (codes "int main(void) { /*@ loop variant 1; */ do ; while (0); }") ∷
    outcome (codes "int main(void) { if (0) /*@ loop assigns x, y[0 .. 3]; loop invariant 0 == 0; */ while (0) ; }") ∷
    outcome (codes "int main(void) { /*@ loop invariant 0 == 0; */ /*@ assert 1 == 1; */ while (0) ; }") ∷
    outcome (codes "int main(void) { /*@ loop foo 1; */ while (0) ; }") ∷
    outcome (codes "int main(void) { /*@ assert 0 == 0; loop invariant 0 == 0; */ while (0) ; }") ∷
    outcome (codes "int main(void) { /*@ loop invariant 0 == 0; */ }") ∷
    outcome (codes "int main(void) { /*@ assert \\forall integer i; i == i; */ return 0; }") ∷
    outcome (codes "int main(void) { /*@ assert 1 == 1 && \\exists integer i, j; 0 <= i < 3 && i == j; */ return 0; }") ∷
    outcome (codes "/*@ assert \\exists integer i; 0 == 0; */ int main(void) { return 0; }") ∷
    outcome (codes "int main(void) { /*@ assert \\forall integer i; i == i; */ if (0) /*@ assert 0 == 0; */ ; return 0; }") ∷
    outcome (codes "int main(void) { /*@ assert (\\forall const int i; i == i) && 0 == 0; */ return 0; }") ∷ []
    ≡
    refusal 7 (place 1 22 21) (codes "loop") ∷
    refusal 7 (place 1 38 37) (codes "loop") ∷
    refusal 7 (place 1 22 21) (codes "loop") ∷
    Ok (Exits (pos 0), []) ∷
    refusal 7 (place 1 22 21) (codes "loop") ∷
    refusal 4 (place 1 27 26) (codes "foo") ∷
    refusal 4 (place 1 37 36) (codes "loop") ∷
    refusal 4 (place 1 48 47) (codes "}") ∷
    refusal 8 (place 1 29 28) (codes "\\forall") ∷
    refusal 8 (place 1 39 38) (codes "\\exists") ∷
    refusal 7 (place 1 5 4) (codes "assert") ∷
    refusal 8 (place 1 29 28) (codes "\\forall") ∷
    refusal 4 (place 1 38 37) (codes "const") ∷ []
unfolding tokens_of build cut piece_at add marks digits_at suffix_of body_of literal_of escape_at unit_at letter_of is_file ends_marker headers include_fault directive_fault outside_in_c outside_in_annotations backslash_names
    is_outside word_at number_at letter_at string_at annotation_marks c_mark_at mark_at comment_at open_block open_line other_at directive_at integer_word integer_words typedef_name struct_tag enum_tag untagged_base base
    consts type_words type_behind more_consts star next_star star_words written_length length_or_none bracket next_bracket brackets type_name closed indexed dotted arrowed postfix_once postfixes postfix_rest literal
    literal_first cast_rest sized_type paren_rest behind_paren prefixed sized operand_but_name operand_of operand joined_once behind_operand choice_rest conditional_rest expression_of expression_at expression next_argument
    arguments call_rest behind_variable assigned bumped behind_unary behind_form at_level next_part with_commas bump_first full_expression placed_rest placed_expression nameless_expression expression_behind full_placed_expression
    full_nameless_expression full_expression_behind
    full_expression_at ended maybe_comma
    next_item item_once more_items listed lengths dtor full_dtor maybe_name abstract_dtor full_abstract_dtor item_of_list list_of list_in initialiser initialised declared_once next_declared more_declared declared_list
    declaration parameter_rest void_parameter parameter_behind parameter next_parameter more_parameters first_parameter parameters next_member members_of behind_tag behind_word tagged_type braced member more_members
    struct_braces constant_value constant enum_braces braces_of braces_in storage_word more_storage file_spec whole zone named_form literal_form sized_form null_form result_form old_form labelled_form told_form asked_form
    next_zone some_zones separated_form atom
    worded formula_indexed formula_dotted pointed formula_postfix_once formula_postfixes worded_postfix cast_behind cast_to_type cast_to_integer closed_postfix parenthesised behind_parenthesis formula_prefixed bare_prefix
    prefix_of prefix formula_joined_once joined_more joined placed_name next_name some_names binder_type binders quantified added_rest ranged behind_first added_parenthesis added sum_once sum_more zone_sum linked links_of links chain_behind chain_of
    implied implication_behind
    implication_of chosen_behind choice_behind implication form_of forms form_clause full_clause next_clause more_clauses asserts assigns full_assigns looped loop_assigns loop_clause full_loop_clause
    next_loop_clause more_loop_clauses loop_clauses next_own more_owns placed_own behavior next_behavior more_behaviors behavior_names cover_clause
    full_cover next_cover more_covers behaviors_and_covers own_first behavior_first cover_first contract clauses annotations run_item behind_annotation annotated_item
    condition else_branch else_part selection while_loop do_loop for_first maybe_ended for_behind for_loop jump returned return_statement item items_once items block valued_case
    default_case case_label case_item case_items_once case_items next_case cases switch_statement empty_statement effect_statement effect_behind labelled_statement named_statement statement_of branch_of loop_of
    unlooped_of inside_of too_deep statement_in branch_in behind_in inside_in
    function_rest function globals behind_declarator
    declared_at_file next_typedef more_typedefs typedefs next_stray strays declared_external external more_external unit word_of library_constant is_library_name
loops_and_quantifiers = refl

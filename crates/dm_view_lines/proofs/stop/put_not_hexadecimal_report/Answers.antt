use Rattle.dm_view_lines.proofs.stop.put_not_hexadecimal_report.Goals as goal

pub returns-in-CheckJson : goal.returns-in-CheckJson
returns-in-CheckJson c = rw c.in-CheckJson.is c.put_json_error_line-in-CheckJson.ensures

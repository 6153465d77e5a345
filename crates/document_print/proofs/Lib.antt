mod Appending
mod SameLines
mod ScriptText
mod DocumentText

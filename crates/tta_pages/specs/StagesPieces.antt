-- The pieces of the fixed text of a page of the stages of a program.
use Rattle.std.specs.Prelude.{ℕ, List, codes}

-- the head of a page of stages, up to its style
unfoldable pub stages_head_text : List ℕ
stages_head_text =
    codes "<!DOCTYPE html>\n<html lang='en'>\n<head><meta charset='utf-8'><title>The stages of a program</title>\n<style>\n"

-- the style of such a page alone
unfoldable pub stages_own_style_text : List ℕ
stages_own_style_text =
    codes "#stages{width:100%}\n#stages>tr>td{padding:.15rem .3rem;border-bottom:2px solid #43505e}\n#stages>tr>th{padding:.2rem .5rem;position:sticky;top:0;background:#fff;border-bottom:2px solid #43505e;z-index:1}\n#stages td td{padding:0 .3rem}\n.pick{cursor:pointer}\n.slots{white-space:normal}.slot{display:inline-block;white-space:pre;padding-right:1rem}\n#stages>tr>td:last-child{width:34%}\n#homes{padding:.3rem .8rem;max-height:30vh;overflow:auto}#homes table{width:100%}\n#homes td:first-child{width:1%}#homes .span{position:relative;width:100%;height:1.5rem;background:#f2f5f8;border-bottom:1px solid #fff}\n#told{position:sticky;bottom:0;min-height:2rem;white-space:pre-wrap}\n"

-- the body of such a page, up to where the text of stages begins
unfoldable pub stages_body_text : List ℕ
stages_body_text =
    codes "</style></head>\n<body>\n<header><h1>The stages of a program</h1><button id='back'>line back</button><button id='on'>next line</button><button id='bars'>homes</button>\n<span>click a line, or <kbd>j</kbd> <kbd>k</kbd> next and last, <kbd>Esc</kbd> none, <kbd>h</kbd> homes, <kbd>+</kbd> <kbd>-</kbd> size</span></header>\n<section id='homes'></section>\n<table id='stages'></table>\n<footer id='told'></footer>\n<script type='text/plain' id='source'>\n"

-- the script that shows the columns of a block: its lines, its register code, its moves with what the passes made, and its cycles
unfoldable pub stages_columns_text : List ℕ
stages_columns_text =
    codes "const all=joinAll(stagesOf(find('source').textContent)),picks=[];\nfunction pick(element,line,item){\nelement.classList.add('pick');\npicks.push({element,line,item});\nelement.onclick=()=>mark(line,item);\nreturn element;\n}\nconst rows=list=>make('table','',...list.map(cells=>make('tr','',...cells)));\nconst lineRow=(block,step)=>[make('td','dim',''+step.line),pick(make('td','',step.text),block.proc+':'+step.line),make('td','dim',step.place)];\n"

-- the script that shows a move with what the passes made of it, and the moves of a cycle
unfoldable pub stages_cells_text : List ℕ
stages_cells_text =
    codes "const why={'after bypass':'bypassed','after share':'shared: the port has it','after dead':'dropped: nothing reads it'};\nfunction fate(item){\nconst told=item.was.map(([what,text])=>(why[what]||what)+': '+text);\nreturn [...told,...item.gone?[why[item.gone]||item.gone]:[]].join(newline);\n}\nfunction moveRow(item){\nconst text=item.text||item.was[0][1];\nreturn [pick(make('td',item.gone?'gone':'',text),item.line,item),pick(make('td','why',fate(item)),item.line,item)];\n}\nfunction cycleRow(block,row){\nconst slots=block.slots.filter(slot=>slot.address==row.address).map(slot=>pick(make('span','slot',slot.text),slot.item&&slot.item.line,slot.item));\nreturn [make('td','dim',''+row.address),make('td','slots',...slots)];\n}\n"

-- the script that shows all blocks, a band of a tint each
unfoldable pub stages_bands_text : List ℕ
stages_bands_text =
    codes "function band(block){\nconst head=make('div','why',block.name+': '+block.origin.replace(/^steps of [^ ]+ /,'').replace(/ ([0-9]+)$/,(m,k)=>block.kind=='steps'?' to '+k:m));\nconst ends=block.own.length?rows(block.own.map(step=>lineRow(block,step))):'';\nconst code=rows(block.code.map(step=>[pick(make('td','',step.text),step.line)]));\nconst live=make('div','dim','then live: '+(block.live.join(' ')||'none'));\nconst cycles=make('div','dim',block.cycles+(block.cycles==1?' cycle':' cycles')+' from address '+block.address);\nconst cells=[[head,ends],[code,live],[rows(block.items.map(moveRow))],[rows(block.rows.map(row=>cycleRow(block,row))),cycles]];\nreturn make('tr',block.tint,...cells.map(inner=>make('td','',...inner)));\n}\nconst titles=['program','register code','moves, and what the passes made of them','cycles'];\nfind('stages').append(make('tr','',...titles.map(title=>make('th','',title))),...all.code.map(band));\n"

-- the script that shows the intervals of homes as bars over the lines of a procedure
unfoldable pub stages_homes_text : List ℕ
stages_homes_text =
    codes "function homesOf(proc){\nconst own=all.variables.filter(v=>v.proc==proc&&v.last!==undefined),blocks=all.blocks.filter(b=>b.proc==proc);\nconst first=Math.min(...blocks.map(b=>b.first))-1,width=100/(Math.max(...blocks.map(b=>b.last))-first+1);\nconst bar=(v,k)=>{\nconst element=make('div','bar tint'+k%6,v.name+' '+v.span),from=v.first?v.first-first:0,to=v.last?v.last-first:0;\nelement.style.left=from*width+'%';\nelement.style.width=(to-from+1)*width+'%';\nreturn element;\n};\nconst homes=[...new Set(own.map(v=>v.home))];\nconst row=home=>[make('td','',home),make('td','',make('div','span',...own.map((v,k)=>v.home==home?bar(v,k):'')))];\nreturn [make('h2','','homes of '+proc+', over its lines'),rows(homes.map(row))];\n}\nfind('homes').append(...[...new Set(all.variables.map(v=>v.proc))].flatMap(homesOf));\n"

-- the script that marks what became of a line, and tells it
unfoldable pub stages_marks_text : List ℕ
stages_marks_text =
    codes "const lines=[...new Set(picks.map(p=>p.line).filter(line=>line))];\nlet at=-1;\nconst cyclesOf=slots=>{\nconst at=[...new Set(slots.map(slot=>slot.address))].sort((a,b)=>a-b);\nreturn at.length?(at.length>1?'addresses ':'address ')+at.join(' '):'no cycle';\n};\nfunction toldOf(line,item){\nif(item)return [item.text,...fate(item).split(newline),item.slot?'at address '+item.slot.address:''].filter(text=>text).join(' | ');\nconst items=all.code.flatMap(b=>b.items).filter(i=>i.line==line),gone=items.filter(i=>i.gone).length;\nreturn line.replace(':',' line ')+': '+items.length+' moves, '+gone+' left out, '+cyclesOf(items.filter(i=>i.slot).map(i=>i.slot));\n}\n"

-- the script that marks a line, and a move with the start or the reads of its result
unfoldable pub stages_mark_text : List ℕ
stages_mark_text =
    codes "function mark(line,item){\nat=lines.indexOf(line);\nconst result=item&&(item.starts||item.result);\nfor(const p of picks){\np.element.classList.toggle('line',!!line&&p.line==line);\np.element.classList.toggle('item',!!item&&p.item==item);\np.element.classList.toggle('result',!!result&&!!p.item&&p.item!=item&&(p.item.starts==result||p.item.result==result));\n}\nfind('told').textContent=line?toldOf(line,item):'';\n}\n"

-- the script of keys and buttons of such a page, and its end
unfoldable pub stages_keys_text : List ℕ
stages_keys_text =
    codes "function go(by){\nconst to=Math.max(0,Math.min(lines.length-1,at+by)),first=picks.find(p=>p.line==lines[to]);\nmark(lines[to]);\nif(first)first.element.scrollIntoView({block:'center'});\n}\nfunction bars(){find('homes').hidden=!find('homes').hidden;}\nfind('back').onclick=()=>go(-1);\nfind('on').onclick=()=>go(1);\nfind('bars').onclick=bars;\nonKeys({j:()=>go(1),k:()=>go(-1),Escape:()=>mark(),h:bars,'+':()=>resize(1.1),'-':()=>resize(1/1.1)});\n"
